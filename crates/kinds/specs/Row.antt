-- The exchanges of a script that stand in a row: kind and byte, kind and byte (RULES, Events).
use Rattle.std.specs.Prelude.{ℕ, zero, suc, ◌+◌, Bool, cond, ◌&&◌, List, eqb, ltb, length, get_or}
use Rattle.kinds.specs.Kinds.{EXCHANGE}

-- whether a whole exchange stands at an offset of a script: its kind and its byte
abbrev pub is_exchange : List ℕ → ℕ → Bool
is_exchange s at = eqb (get_or s at 0) EXCHANGE && ltb (at + 1) (length s)

-- how many stand there in a row, as many as the fuel allows
unfoldable pub row : ℕ → List ℕ → ℕ → ℕ
row zero s at = 0
row (suc fuel) s at = cond (is_exchange s at) (suc (row fuel s (at + 2))) 0

-- how many stand in a row from an offset on: a script has fewer exchanges than bytes
unfoldable pub exchanges_from : List ℕ → ℕ → ℕ
exchanges_from s at = row (length s) s at
