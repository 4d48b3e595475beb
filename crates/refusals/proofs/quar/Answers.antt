-- Key and kind, then whoever is left; the last test is of two parts, and where the rows are full the other is as it was.
use Rattle.std.specs.Prelude.{if◌then◌else◌}
use mathlib.Core.Path.{◌≡◌, sym, ◌∙◌}
use mathlib.Core.Bool.{Bool, true}
use mathlib.Core.List.{[]}
use mathlib.Core.Option.{none, some}
use Prim.Native.Nat.{◌<◌}
use Rattle.lent.proofs.Choices.{test_failed, test_passed}
use Rattle.machine.specs.Tables.{first}
use Rattle.machine.specs.Sizes.{key_count}
use Rattle.machine.specs.Words.{ROOM, is_kind}
use Rattle.machine.specs.State.{State}
use Rattle.machine.specs.Expiry.{expire}
use Rattle.machine.specs.Sound.{sound}
use Rattle.machine.specs.Refusals.{refusals}
use Rattle.machine.specs.declared.Command.TheVariants.{Quar}
use Rattle.machine.proofs.FirstRefusal.{quar_key, quar_kind, quar_not_live, quar_sealed, quar_room}
use Rattle.layout.specs.Holds.{Holds}
use Rattle.refusals.specs.Met.{refusal_of, Meets}
use Rattle.refusals.proofs.Lefts.{left_is, left_nobody, meets}
use Rattle.refusals.proofs.Rooms.{Asks, quar_expired}
use Rattle.refusals.proofs.quar.Goals as goal
use Rattle.refusals.proofs.quar.Goals.{After-rows_full, After-session, After-would_grant}

pub returns-then-key : goal.returns-then-key
returns-then-key c = λ σ h ok. meets (quar_key _ _ _ _ _ c.if-key.true)

pub returns-then-not-is_kind : goal.returns-then-not-is_kind
returns-then-not-is_kind c = λ σ h ok. meets (quar_kind _ _ _ _ _ (test_failed c.is_kind.ensures c.if-not-is_kind.true))

-- the tests of the key and of the kind are passed
right : (c : After-session) → let a = c.args in (a.key < key_count) × (is_kind a.kind ≡ true)
right c = (c.if-key.false, test_passed c.is_kind.ensures c.if-not-is_kind.false)

pub returns-in_default : goal.returns-in_default
returns-in_default c =
    let w = right (goal.at.returns-in_default c).After-session in
    λ σ h ok. meets (quar_not_live _ _ _ _ _ w.0 w.1 (left_nobody _ (c.session.ensures σ h ok) c.in_default.is))

pub returns-then-is_sealed : goal.returns-then-is_sealed
returns-then-is_sealed c =
    let w = right (goal.at.returns-then-is_sealed c).After-session in
    λ σ h ok. meets (quar_sealed _ _ _ _ _ w.0 w.1 _ (left_is _ (c.session.ensures σ h ok) c.in-Some.is) (sym c.is_sealed.ensures ∙ c.if-is_sealed.true))

-- the tests before that of the rows are passed
asks : (c : After-rows_full) (σ : State) → let a = c.args in Holds a.s.now σ → sound σ ≡ true
    → Asks (expire a.time σ) a.session a.key a.kind c.in-Some.x
asks c σ h ok =
    let if3 = c.if-is_sealed in
    let is_sealed = c.is_sealed in
    let x = c.in-Some in
    record {
      key = c.if-key.false;
      kind = test_passed c.is_kind.ensures c.if-not-is_kind.false;
      live = left_is _ (c.session.ensures σ h ok) x.is;
      unsealed = sym is_sealed.ensures ∙ if3.false;
    }

pub returns-then-not-rows_full : goal.returns-then-not-rows_full
returns-then-not-rows_full c = λ σ h ok. let w = asks (goal.at.returns-then-not-rows_full c).After-rows_full σ h ok in
    meets (quar_room _ _ _ _ _ w.key w.kind _ w.live w.unsealed (test_failed (c.rows_full.ensures σ h ok) c.if-not-rows_full.true))

-- where the rows are full, what would be granted is refused
by-grant : (c : After-would_grant) {t : Bool} → c.would_grant.result ≡ t
    → ((σ : State) → Holds c.args.s.now σ → sound σ ≡ true → Asks (expire c.args.time σ) c.args.session c.args.key c.args.kind c.in-Some.x)
    → let a = c.args in Meets a.s.now a.time (λ σ. first (refusals σ (Quar a.session a.key a.kind) [])) (refusal_of (if t then some ROOM else none))
by-grant c g asked = λ σ h ok. let full = test_passed (c.rows_full.ensures σ h ok) c.if-not-rows_full.false in
    meets (quar_expired _ ok _ full (asked σ h ok) (sym (c.would_grant.ensures σ h ok) ∙ g))

pub returns-then-would_grant : goal.returns-then-would_grant
returns-then-would_grant c = by-grant (goal.at.returns-then-would_grant c).After-would_grant c.if-would_grant.true (asks (goal.at.returns-then-would_grant c).After-rows_full)

pub returns : goal.returns
returns c = by-grant (goal.at.returns c).After-would_grant c.if-would_grant.false (asks (goal.at.returns c).After-rows_full)
