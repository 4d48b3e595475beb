-- The four stores write the sixteen bytes of the record, which fits.
use native.Mathlib.Omega.{arith}
use Rattle.sessions.proofs.Slots.{session_stored}
use Rattle.sessions.proofs.store.Goals as goal

pub returns : goal.returns
returns c = let store-u64 = c.store_u64 in
    let until-of = c.until_of in
    let store-u16 = c.store_u16 in
    let store_pair = c.store_pair in
    let mark_of = c.mark_of in
    let store-u32 = c.store_u32 in
    λ σ h p q.
    session_stored h c.args.i c.requires c.args.x
    (record { given = p; number = omega (arith, c.well_formed); count = q; until = omega (arith, until-of.type_inv, until-of.ensures) }) _ _ _ _ _ _
    mark_of.ensures until-of.ensures store-u32.ensures store_pair.ensures store-u16.ensures store-u64.ensures
