-- `among` is `mem`: std's test of any element is that of `any`.
use Rattle.std.proofs.Common.{◌≡◌, Bool, ℕ, List, [], ◌∷◌, refl, ◌∙◌}
use Rattle.std.specs.List.{list_any}
use Rattle.machine.specs.Tables.{any}
use Rattle.endings.proofs.among.Goals as goal

any_element : (p : ℕ → Bool) (l : List ℕ) → list_any p l ≡ any p l
any_element p [] = refl
any_element p (x ∷ l) = rw (any_element p l)

pub returns : goal.returns
returns c = c.contains.ensures.value ∙ any_element _ c.args.ns.now
