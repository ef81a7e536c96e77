-- The text that the program prints, as ASCII codes: numbers, a record's word, the lines (RULES, The program).
use Rattle.std.specs.Prelude.{ℕ, zero, suc, ◌+◌, ◌/◌, ◌%◌, cond, List, [], ◌∷◌, ◌++◌, ltb}
use Prim.Native.String.{String, [] as no_text, ◌∷◌ as ◌then◌}
use Prim.Native.Char.{code}
use Rattle.chip.specs.declared.Record.{Record}
use Rattle.chip.specs.declared.Record.TheVariants.{Nothing, Floating, Driven, Verdict, InTheWay}

-- the codes of a text
abbrev pub ascii : String → List ℕ
ascii no_text = []
ascii (c then s) = code c ∷ ascii s

-- ---- numbers

-- a number's decimal digits, with no zeros in front, where `most` digits hold it
unfoldable pub spelled : ℕ → ℕ → List ℕ
spelled zero n = []
spelled (suc most) n = cond (ltb n 10) [] (spelled most (n / 10)) ++ ((48 + n % 10) ∷ [])

-- a number in decimal: 20 digits hold every number of 64 bits
abbrev pub decimal_of : ℕ → List ℕ
decimal_of n = spelled 20 n

-- a hex digit, 0 to 9 and then A to F
abbrev pub hex_digit : ℕ → ℕ
hex_digit d = cond (ltb d 10) (48 + d) (55 + d)

-- a byte as two of them
abbrev pub hex_of : ℕ → List ℕ
hex_of b = hex_digit (b / 16) ∷ hex_digit (b % 16) ∷ []

-- ---- the lines (RULES, The program)

-- a record's word: two dashes for floating, the byte driven in hex, or V and the verdict, 9 with the first and the last protected sector (RULES, Records)
abbrev pub word_of : Record → List ℕ
word_of Nothing = []
word_of Floating = ascii "--"
word_of (Driven b) = hex_of b
word_of (Verdict v) = ascii "V" ++ decimal_of v
word_of (InTheWay first last) = ascii "V9 " ++ decimal_of first ++ ascii " " ++ decimal_of last

-- the line of a record: where its event starts, and its word
unfoldable pub line_of : ℕ → Record → List ℕ
line_of offset said = decimal_of offset ++ ascii " " ++ (word_of said ++ ascii "\n")

-- the first line: the part, by its length
unfoldable pub part_line : ℕ → List ℕ
part_line n = ascii "part " ++ decimal_of n ++ ascii "\n"

-- the last line of a script that was run: its working ticks
unfoldable pub done_line : ℕ → List ℕ
done_line ticks = ascii "answer 0 ticks " ++ decimal_of ticks ++ ascii "\n"

-- the last line of a script that was refused: the number and the offset
unfoldable pub refused_line : ℕ → ℕ → List ℕ
refused_line number offset = ascii "answer " ++ decimal_of number ++ ascii " " ++ (ascii "at " ++ decimal_of offset ++ ascii "\n")

-- the only line for a script that is too long to be run
abbrev pub too_long : List ℕ
too_long = ascii "too long\n"

-- the most bytes that a record's line has: an offset of four digits, a blank, the word `V9 31 31`, and the line's end
abbrev pub longest_line : ℕ
longest_line = 14
