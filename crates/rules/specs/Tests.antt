-- A command's rule and its grant by parts, as the code takes them.
use Rattle.std.specs.Prelude.{ℕ}
use Rattle.machine.specs.Sizes.{key_count}
use Rattle.machine.specs.Words.{STORED, DONE, UNDONE}
use Rattle.machine.specs.declared.Command.{Command}
use Rattle.machine.specs.declared.Command.TheVariants.{Begin, Get, Fill, Quar, Stage, Delta, Validate, Done, Undo, Evict, Tick}
use Rattle.replies.specs.Replies.{UNREADABLE}

-- the word at which a command's rule counts: STORED, DONE, UNDONE; for any other command a word that the cache does not have
abbrev pub watched : Command → ℕ
watched Begin = UNREADABLE
watched (Get n k) = UNREADABLE
watched (Fill t k) = STORED
watched (Quar n k d) = UNREADABLE
watched (Stage n i k) = UNREADABLE
watched (Delta n i k o) = UNREADABLE
watched (Validate n m) = UNREADABLE
watched (Done n) = DONE
watched (Undo n) = UNDONE
watched (Evict k) = UNREADABLE
watched Tick = UNREADABLE

-- the key on which a command can be granted an I lease, or none
abbrev pub asks_for : Command → ℕ
asks_for Begin = key_count
asks_for (Get n k) = k
asks_for (Fill t k) = key_count
asks_for (Quar n k d) = key_count
asks_for (Stage n i k) = key_count
asks_for (Delta n i k o) = key_count
asks_for (Validate n m) = key_count
asks_for (Done n) = key_count
asks_for (Undo n) = key_count
asks_for (Evict k) = key_count
asks_for Tick = key_count
