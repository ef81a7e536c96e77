-- Bytes put into a lent buffer one after the other: the lines of a listing, the events of a script.
use Rattle.std.specs.Prelude.{ℕ, ◌+◌, List, ◌≡◌, length}
use Rattle.std.proofs.lemmas.List.Edits.{sets}

-- what putting `new` into a buffer t at a place p leaves: the place after it, and the buffer
pub record Put (t : List ℕ) (p : ℕ) (new : List ℕ) (p' : ℕ) (t' : List ℕ) : Type 0 where
  pub end : p' ≡ p + length new
  pub buffer : t' ≡ sets t p new
