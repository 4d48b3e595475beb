-- One pass over the rows: the bits of a row's key tell of it what comparing it with each row before it tells. A row of kind INVALIDATE has the bit of
-- its session, and the bit at a session's place is that session's, since a place has one number; a row of another kind has all bits of its key.
use Rattle.std.specs.Prelude.{Option, Some, None, if◌then◌else◌}
use Rattle.std.proofs.lemmas.Option.{same_Some}
use mathlib.Core.Path.{◌≡◌, refl, sym, ap, ◌∙◌}
use mathlib.Core.Bool.{Bool, true, false, not, ◌&&◌, and-false}
use mathlib.Core.Logic.{◌⊎◌, ⊎_elim, inl, inr}
use mathlib.Core.List.{List}
use Prim.Native.Nat.{ℕ, ◌+◌, ◌*◌, ◌/◌, ◌<◌}
use native.Mathlib.Omega.{arith}
use lib.ListN.{length-replicate, replicate}
use lib.Dec.{eqb}
use borrow.Author.Tests.{eq-eqb, ne_eqb}
use Rattle.lent.specs.Bytes.{le32}
use Rattle.lent.specs.Tables.{every}
use Rattle.lent.proofs.Choices.{if_same, clash}
use Rattle.lent.proofs.Walks.{all-every, every_fails}
use Rattle.machine.specs.Words.{INVALIDATE}
use Rattle.machine.specs.Sizes.{key_count, keys_from, key_width}
use Rattle.order.specs.Order.{item}
use Rattle.joins.specs.Bits.{word_bits}
use Rattle.joins.specs.Joins.{row_session, row_key, row_kind, is_live, pair_ok, join_ok, first_place, key_words, holder_words, holds, with_holder, Taken, Came, dead, beside, alone, On, Holder, Seen, Sessions, Ready, Joined}
use Rattle.joins.proofs.Lookup.{Stands, place_dead, place_live}
use Rattle.order.proofs.Numbers.{last_or, same_or}
use Rattle.joins.proofs.Holders.{Grown, grown_one, grown_all, no_bit, no_word}

-- ---- rows before another

on-more : {s : List ℕ} {i k j : ℕ} → On s i k j → On s (i + 1) k j
on-more o = record { before = omega (arith, o.before); used = o.used; key = o.key }

on-last : {s : List ℕ} {i k j : ℕ} → On s (i + 1) k j → (j ≡ i) ⊎ On s i k j
on-last {s} {i} {k} {j} o = ⊎_elim (λ e. inl e) (λ l. inr (record { before = l; used = o.used; key = o.key })) (last_or j i o.before)

-- ---- two rows

module _ (s : List ℕ) (n k d j : ℕ) where
  pair_free : row_session s j ≡ 0 → pair_ok s n k d j ≡ true
  unfolding pair_ok
  pair_free e = rw (eq-eqb (row_session s j) 0 e)

  pair_off : (row_key s j ≡ k → ⊥) → pair_ok s n k d j ≡ true
  unfolding pair_ok
  pair_off e = rw (ne_eqb (row_key s j) k e) (if_same (eqb (row_session s j) 0) true)

  pair_on : (i : ℕ) → On s i k j → pair_ok s n k d j ≡ not (eqb (row_session s j) n) && (eqb (row_kind s j) INVALIDATE && eqb d INVALIDATE)
  unfolding pair_ok
  pair_on i o = rw (ne_eqb (row_session s j) 0 o.used, eq-eqb (row_key s j) k o.key)

  -- a pair holds if it holds for a used row on the key
  pair_if : (i : ℕ) → j < i → (On s i k j → (row_session s j ≡ n → ⊥) × (row_kind s j ≡ INVALIDATE) × (d ≡ INVALIDATE)) → pair_ok s n k d j ≡ true
  pair_if i l f =
      ⊎_elim pair_free
      (λ u. ⊎_elim (λ e. let o : On s i k j = record { before = l; used = u; key = e } in
      let x = f o in
      pair_on i o ∙ rw (ne_eqb (row_session s j) n x.0, eq-eqb (row_kind s j) INVALIDATE x.1, eq-eqb d INVALIDATE x.2)) pair_off (same_or (row_key s j) k))
      (same_or (row_session s j) 0)

-- ---- row i beside those before it

pub ready-none : {s nums : List ℕ} → Sessions s nums → Ready s 0 nums (replicate holder_words 0)
ready-none y = record {
  sessions = y;
  rows = record {
    wide = length-replicate {A = ℕ} holder_words 0;
    placed = λ k j o. absurd (omega (arith, o.before));
    set-by = λ k j q o. absurd (omega (arith, o.before));
    found = λ k h l u. absurd (u (no_word (k * key_words + h)));
    left = λ k q l e. clash (holds (replicate holder_words 0) k q) e (no_bit (replicate holder_words 0) k q (no_word (k * key_words + q / word_bits)));
  };
}

module _ {s nums words : List ℕ} {i : ℕ} (y : Ready s i nums words) where
  abbrev P : ℕ → Option ℕ
  P = first_place nums

  -- a free row
  seen_skip : row_session s i ≡ 0 → Seen s P (i + 1) words
  seen_skip e =
      let h = y.rows in
      let past : (k j : ℕ) → On s (i + 1) k j → On s i k j = λ k j o. ⊎_elim (λ q. absurd (o.used (ap (row_session s) q ∙ e))) (λ b. b) (on-last o) in
      record {
        wide = h.wide;
        placed = λ k j o. h.placed k j (past k j o);
        set-by = λ k j q o. h.set-by k j q (past k j o);
        found = λ k x l u. let w = h.found k x l u in (w.0, on-more w.1);
        left = λ k q l u. let w = h.left k q l u in (w.0, on-more w.1, w.2);
      }

  pub join_free : row_session s i ≡ 0 → Joined s i true nums words
  unfolding join_ok
  join_free e = record {
    is = rw (eq-eqb (row_session s i) 0 e);
    next = λ r. record { sessions = y.sessions; rows = seen_skip e };
  }

  -- the session of a row before it stands at its place
  placed_at : (j : ℕ) {q : ℕ} → P (row_session s j) ≡ Some q → Stands s nums (row_session s j) q
  placed_at j = place_live s nums y.sessions.gathered (row_session s j)

  -- row i of session n on key k
  module _ {n k : ℕ} (isn : n ≡ row_session s i) (isk : k ≡ row_key s i) (used : n ≡ 0 → ⊥) where
    abbrev token : ℕ
    token = le32 s (keys_from + k * key_width + 4)

    abbrev pairs : ℕ → Bool
    pairs = pair_ok s n k (row_kind s i)

    join_is : join_ok s i ≡ (if eqb token 0 then if is_live s n then every pairs i else false else false)
    unfolding join_ok
    join_is = rw (isk, isn, ne_eqb (row_session s i) 0 (λ e. used (isn ∙ e)))

    refused : {words' : List ℕ} → join_ok s i ≡ false → Joined s i false nums words'
    refused e = record { is = sym e; next = λ r. clash false r refl }

    pub join_leased : (token ≡ 0 → ⊥) → Joined s i false nums words
    join_leased e = refused (join_is ∙ rw (ne_eqb token 0 e))

    module _ {p : Option ℕ} (isp : p ≡ P n) (free : token ≡ 0) where
      join_dead : {words' : List ℕ} → p ≡ None → Joined s i false nums words'
      join_dead l = refused (join_is ∙ rw (eq-eqb token 0 free, place_dead s nums y.sessions.gathered n (sym isp ∙ l)))

      module _ {q : ℕ} (live : p ≡ Some q) (b : k < key_count) where
        stands : Stands s nums n q
        stands = place_live s nums y.sessions.gathered n (sym isp ∙ live)

        mine : P (row_session s i) ≡ Some q
        mine = ap P (sym isn) ∙ (sym isp ∙ live)

        here : On s (i + 1) k i
        here = record { before = omega arith; used = λ z. used (isn ∙ z); key = sym isk }

        -- the pass goes on if the row has its bits
        seen_next : {words' : List ℕ} → Grown words k (Holder s P i) words' → Seen s P (i + 1) words'
        seen_next g =
            let h = y.rows in
            let on-key : (v j : ℕ) → On s (i + 1) v j → j ≡ i → v ≡ k = λ v j o e. sym o.key ∙ (ap (row_key s) e ∙ sym isk) in
            record {
              wide = g.wide;
              placed = λ v j o. ⊎_elim (λ e. (q, ap (λ (x : ℕ). P (row_session s x)) e ∙ mine)) (λ w. h.placed v j w) (on-last o);
              set-by = λ v j x o l a. ⊎_elim (λ e. rw (on-key v j o e) (g.own x l (rw e at a))) (λ w. g.kept v x l (h.set-by v j x w l a)) (on-last o);
              found = λ v x l u. ⊎_elim (λ e. (i, rw e here)) (λ z. let w = h.found v x l z in (w.0, on-more w.1)) (g.word_back v x l u);
              left = λ v x l e. ⊎_elim (λ z. (i, rw z.0 here, z.1)) (λ z. let w = h.left v x l z in (w.0, on-more w.1, w.2)) (g.back v x l e);
            }

        -- what is said of the row is what comparing it with each row before it says
        joined : {r : Bool} {words' : List ℕ} → r ≡ every pairs i → (r ≡ true → Grown words k (Holder s P i) words') → Joined s i r nums words'
        joined e g = record {
          is = e ∙ sym (join_is ∙ rw (eq-eqb token 0 free, stands.live));
          next = λ t. record { sessions = y.sessions; rows = seen_next (g t) };
        }

        -- a row before it on the key that may not stand beside it
        pair_fails : (j : ℕ) → On s i k j → not (eqb (row_session s j) n) && (eqb (row_kind s j) INVALIDATE && eqb (row_kind s i) INVALIDATE) ≡ false → every pairs i ≡ false
        pair_fails j o e = every_fails pairs i j o.before (pair_on s n k (row_kind s i) j i o ∙ e)

        -- ---- a row of kind INVALIDATE

        module _ (kind : row_kind s i ≡ INVALIDATE) where
          -- the bit is that of a row of the session on the key, or of one of another kind
          twice : holds words k q ≡ true → every pairs i ≡ false
          twice e =
              let w = y.rows.left k q stands.low e in
              let j : ℕ = w.0 in
              pair_fails j w.1
              (⊎_elim
              (λ a. let o : row_session s j ≡ n = sym (placed_at j (w.2 a)).here ∙ stands.here in rw (eq-eqb (row_session s j) n o))
              (λ a. rw (ne_eqb (row_kind s j) INVALIDATE a) (and-false (not (eqb (row_session s j) n))))
              (same_or (row_kind s j) INVALIDATE))

          -- no such row: else the bit would be set
          once : holds words k q ≡ false → every pairs i ≡ true
          once e =
              let no : (j : ℕ) → On s i k j → Holder s P j q → ⊥ = λ j o a. clash (holds words k q) (y.rows.set-by k j q o stands.low a) e in
              all-every pairs i
              (λ j l. pair_if s n k (row_kind s i) j i l
              (λ o. ((λ a. no j o (λ t. ap P a ∙ (sym isp ∙ live))), ⊎_elim (λ t. t) (λ t. absurd (no j o (λ u. absurd (t u)))) (same_or (row_kind s j) INVALIDATE), kind)))

          join_beside : {r : Bool} {words' : List ℕ} → r ≡ not (holds words k q) → words' ≡ with_holder words k q → Joined s i r nums words'
          join_beside e o =
              joined (e ∙ by (holds words k q) refl)
              (λ t. grown_one words y.rows.wide k b q stands.low o (λ v a. same_Some v q (sym (a kind) ∙ mine)) (λ u. mine))
            where
              by : (t : Bool) → holds words k q ≡ t → not t ≡ every pairs i
              by true a = sym (twice a)
              by false a = sym (once a)

        -- ---- a row of another kind

        module _ (kind : row_kind s i ≡ INVALIDATE → ⊥) where
          -- no row is on a key without a bit
          no_row_lem : ((h : ℕ) → h < key_words → item words (k * key_words + h) ≡ 0) → (j : ℕ) → On s i k j → ⊥
          no_row_lem z j o =
              let w = y.rows.placed k j o in
              let l = (placed_at j w.1).low in
              clash (holds words k w.0) (y.rows.set-by k j w.0 o l (λ t. w.1)) (no_bit words k w.0 (z (w.0 / word_bits) (omega (arith, l))))

          join_alone : {r : Bool} {words' : List ℕ} → Taken words k r words' → Joined s i r nums words'
          join_alone {r} {words'} t =
              joined (by r refl) (λ e. grown_all words y.rows.wide k b (t.then_all e) (λ v u. absurd (kind u)))
            where
              by : (x : Bool) → r ≡ x → r ≡ every pairs i
              by true e = e ∙ sym (all-every pairs i (λ j l. pair_if s n k (row_kind s i) j i l (λ o. absurd (no_row_lem (t.free e) j o))))
              by false e =
                  let h = t.held e in
                  let w = y.rows.found k h.0 h.1 h.2 in
                  e ∙ sym (pair_fails w.0 w.1 (rw (ne_eqb (row_kind s i) INVALIDATE kind, and-false (eqb (row_kind s w.0) INVALIDATE), and-false (not (eqb (row_session s w.0) n)))))

      pub join_came : k < key_count → {kind : ℕ} {r : Bool} {words' : List ℕ} → kind ≡ row_kind s i → Came words k p kind r words' → Joined s i r nums words'
      join_came b o (dead l e w) = rw e (join_dead l)
      join_came b o (beside v e a z) = join_beside v b (sym o ∙ e) a z
      join_came b o (alone v e t) = join_alone v b (λ z. e (o ∙ z)) t
