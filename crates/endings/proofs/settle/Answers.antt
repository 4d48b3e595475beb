-- Each ending is one change of the key's value, by what the called function ensures; where the value stays nothing is called.
use Rattle.endings.proofs.settle.Goals as goal

pub returns-in-Leaves : goal.returns-in-Leaves
returns-in-Leaves c = λ σ h. rw c.in-Leaves.is h

pub returns-in-Lapses : goal.returns-in-Lapses
returns-in-Lapses c = let drop-value = c.drop_value in
    let enum-told2 = c.in-Lapses in
    λ σ h. rw enum-told2.is (drop-value.ensures σ h)

pub returns-in-Caches : goal.returns-in-Caches
returns-in-Caches c = let cache-staged = c.cache_staged in
    let enum-told3 = c.in-Caches in
    λ σ h. rw enum-told3.is (cache-staged.ensures σ h)
