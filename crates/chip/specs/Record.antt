-- What an event says, as the bytes that stand for it in an output and at the C boundary (RULES, Records).
use Rattle.std.specs.Prelude.{ℕ, List, [], ◌∷◌}
use Rattle.chip.specs.declared.Record.{Record}
use Rattle.chip.specs.declared.Record.TheVariants.{Nothing, Floating, Driven, Verdict, InTheWay}

-- a record's bytes: the first tells how many follow; 83h and the two ends of the protected sectors are how verdict 9 is said (RULES, Records)
abbrev pub record_bytes : Record → List ℕ
record_bytes Nothing = []
record_bytes Floating = 0x80 ∷ []
record_bytes (Driven b) = 0x81 ∷ b ∷ []
record_bytes (Verdict v) = 0x82 ∷ v ∷ []
record_bytes (InTheWay first last) = 0x83 ∷ first ∷ last ∷ []

-- the most bytes that a record has
abbrev pub longest_record : ℕ
longest_record = 3
