-- A lent buffer that is filled from its start: what is written, what is behind it, and what putting bytes into it leaves.
use Rattle.std.specs.Prelude.{ℕ, ◌≤◌, List, ◌++◌, ◌≡◌, length, take, drop}
use Rattle.cells.specs.declared.output.Output.{Output}

-- the bytes that are written, and those behind them
abbrev pub so_far : Output → List ℕ
so_far o = take o.written o.bytes.now

abbrev pub rest : Output → List ℕ
rest o = drop o.written o.bytes.now

-- how many more there is room for
abbrev pub room : Output → ℕ
room o = length (rest o)

-- what putting `new` leaves: the same buffer, with `new` behind what was written
pub record Puts (o : Output) (new : List ℕ) (o' : Output) : Type 0 where
  pub same : o'.bytes.ghost_name ≡ o.bytes.ghost_name
  pub written : so_far o' ≡ so_far o ++ new
  pub behind : rest o' ≡ drop (length new) (rest o)

-- On the way from o₀ to all of `all` put, with `left` left to put, for which there is room.
pub record Putting (o₀ : Output) (all : List ℕ) (o : Output) (left : List ℕ) : Type 0 where
  pub same : o.bytes.ghost_name ≡ o₀.bytes.ghost_name
  pub written : so_far o ++ left ≡ so_far o₀ ++ all
  pub behind : drop (length left) (rest o) ≡ drop (length all) (rest o₀)
  pub fits : length left ≤ room o
