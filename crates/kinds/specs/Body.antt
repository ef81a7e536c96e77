-- An event in a script: its body as one number, and where the next event starts (RULES, Events).
use Rattle.std.specs.Prelude.{ℕ, zero, suc, ◌+◌, ◌*◌, cond, List, ltb, length, get_or}
use Rattle.kinds.specs.Kinds.{body_length}

-- n bytes from a place on as one number, the high byte first
abbrev pub number_at : List ℕ → ℕ → ℕ → ℕ
number_at s from zero = 0
number_at s from (suc n) = number_at s from n * 256 + get_or s (from + n) 0

-- the body of the event at an offset
abbrev pub body_at : List ℕ → ℕ → ℕ
body_at s at = number_at s (at + 1) (body_length (get_or s at 0))

-- where the event after it starts
abbrev pub next_at : List ℕ → ℕ → ℕ
next_at s at = at + 1 + body_length (get_or s at 0)

-- the same for every offset: past the end there is no event, and the offset stays
abbrev pub step_to : List ℕ → ℕ → ℕ
step_to s at = cond (ltb at (length s)) (next_at s at) at
