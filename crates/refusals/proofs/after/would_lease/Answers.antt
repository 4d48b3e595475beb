-- A row or a lease that stays decides against it; otherwise a row that goes drops the value, and without one the value decides.
use mathlib.Core.Bool.{Bool, true, not, ◌||◌, not-not}
use mathlib.Core.Path.{◌≡◌, sym, ap, ◌∙◌}
use Prim.Native.Nat.{ℕ}
use Rattle.lent.proofs.Choices.{test_failed, test_passed}
use Rattle.machine.specs.Sizes.{row_count}
use Rattle.machine.specs.Tables.{is_none}
use Rattle.machine.specs.State.{no_row, State, on, cached}
use Rattle.machine.specs.Expiry.{expire}
use Rattle.machine.specs.Sound.{sound}
use Rattle.machine.specs.Refusals.{would_lease}
use Rattle.layout.specs.Holds.{Holds}
use Rattle.refusals.proofs.Searches.{found-any}
use Rattle.refusals.proofs.Leases.{lease_where_stays, lease_where_none_stays}
use Rattle.refusals.proofs.after.would_lease.Goals as goal
use Rattle.refusals.proofs.after.would_lease.Goals.{After-is_some}

pub returns-then-some_row_stays : goal.returns-then-some_row_stays
returns-then-some_row_stays c = λ σ h ok n. sym (lease_where_stays σ ok _ _ n (sym (c.some_row_stays.ensures σ h) ∙ c.if-some_row_stays.true))

pub returns-then-not-is_leaseless : goal.returns-then-not-is_leaseless
returns-then-not-is_leaseless c =
    λ σ h ok n.
    let none_stays = sym (c.some_row_stays.ensures σ h) ∙ c.if-some_row_stays.false in
    sym (lease_where_none_stays σ ok _ _ n none_stays ∙ rw (test_failed (c.is_leaseless.ensures σ h) c.if-not-is_leaseless.true))

-- no row and no lease stays on the key
leases-by : (c : After-is_some) {r : Bool} → c.is_some.result ≡ r → (σ : State) → let a = c.args in Holds a.s.now σ → sound σ ≡ true → (n : ℕ)
    → (r || is_none (cached σ a.k)) ≡ would_lease (expire a.time σ) n a.k
leases-by c e σ h ok n =
    let if2 = c.if-not-is_leaseless in
    let is-leaseless = c.is_leaseless in
    let if1 = c.if-some_row_stays in
    let some-row-stays = c.some_row_stays in
    sym (lease_where_none_stays σ ok _ _ n (sym (some-row-stays.ensures σ h) ∙ if1.false)
    ∙ rw (test_passed (is-leaseless.ensures σ h) if2.false, found-any (on c.args.k) no_row σ.rows row_count h.fits.rows _ (c.first_on.ensures.0 σ h) ∙ sym c.is_some.ensures ∙ e))

pub returns-then-is_some : goal.returns-then-is_some
returns-then-is_some c = leases-by (goal.at.returns-then-is_some c).After-is_some c.if-is_some.true

pub returns : goal.returns
returns c = λ σ h ok n. ap not (c.has_value.ensures σ h) ∙ not-not _ ∙ leases-by (goal.at.returns c).After-is_some c.if-is_some.false σ h ok n
