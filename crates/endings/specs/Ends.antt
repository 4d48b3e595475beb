-- How the rows of sessions that end are freed, and what becomes of the values of their keys: the whole table, and one row of it.
use Rattle.std.specs.Prelude.{ℕ, List, map, set, if◌then◌else◌}
use Rattle.machine.specs.Tables.{mem}
use Rattle.machine.specs.State.{Key, Staged, Row, no_row, row, State, row_at}
use Rattle.machine.specs.Expiry.{with_keys, with_rows, set_value, free_if_of, settle, lapsed_value}
use Rattle.machine.specs.Effects.{to_cache}
use Rattle.endings.specs.declared.Ending.{Ending}

-- the keys after the rows rs of the sessions ns have ended
abbrev pub keys_settled : Ending → List ℕ → List Row → List Key → List Key
keys_settled Ending.Leaves ns rs ks = ks
keys_settled Ending.Lapses ns rs ks = settle ns lapsed_value rs ks
keys_settled Ending.Caches ns rs ks = settle ns to_cache rs ks

-- the rows of the sessions ns end
unfoldable pub end_rows : Ending → List ℕ → State → State
end_rows e ns s = with_rows (with_keys s (keys_settled e ns s.rows s.keys)) (map (free_if_of ns) s.rows)

-- the keys after a row on key k with u staged has ended
abbrev pub settles : Ending → ℕ → Staged → List Key → List Key
settles Ending.Leaves k u ks = ks
settles Ending.Lapses k u ks = set_value ks k (lapsed_value u)
settles Ending.Caches k u ks = set_value ks k (to_cache u)

abbrev pub row_settles : Ending → List ℕ → Row → List Key → List Key
row_settles e ns no_row ks = ks
row_settles e ns (row n k d u) ks = if mem n ns then settles e k u ks else ks

-- row i ends, if it is of one of the sessions ns
unfoldable pub end_row : Ending → List ℕ → ℕ → State → State
end_row e ns i s = with_rows (with_keys s (row_settles e ns (row_at s i) s.keys)) (set s.rows i (free_if_of ns (row_at s i)))
