-- What a contract says of an answer and of the buffer after it.
use Rattle.std.specs.Prelude.{ℕ, ◌≡◌, List}
use Rattle.machine.specs.declared.Answer.{Answer}
use Rattle.startup.specs.Start.{Reply}
use Rattle.exported.specs.Told.{Replied}

-- an answer and the buffer after it, as a contract gives them
abbrev pub Given : Reply → Answer → List ℕ → Type 0
Given f r x = (r ≡ f.answer) × (x ≡ f.bytes)

-- what is returned and the buffer are one
abbrev pub OneGiven : Reply → Type 0
OneGiven f = (r t : Answer) (x y : List ℕ) → Given f r x → Given f t y → (r ≡ t) × (x ≡ y)

-- of an exported function: what is returned, what is told and the buffer are one
abbrev pub OneReply : Reply → Type 0
OneReply f = (r t : ℕ) (x y b d : List ℕ) → Replied f r b x → Replied f t d y → (r ≡ t) × (x ≡ y) × (b ≡ d)
