-- The refusals by their numbers (RULES, Refusals; The SFDP area; The script writer).
use Rattle.std.specs.Prelude.{ℕ}
use Rattle.refusal.specs.declared.Refusal.{Refusal}
use Rattle.refusal.specs.declared.Refusal.TheVariants.{MemoryLength, IllegalState, LongScript, CutOff, UnknownKind, BodyRange, SmallOutput, WentBack, LongArea, Unsigned, CutHeaders, NoHeader, TableOutside, LargeAllowance, LongData, AddressOutside, DataOutside, NoRoom}

-- no refusal has the number 0, which stands for none; 9 to 12 and 19 are not used
abbrev pub number_of : Refusal → ℕ
number_of MemoryLength = 1
number_of IllegalState = 2
number_of LongScript = 3
number_of CutOff = 4
number_of UnknownKind = 5
number_of BodyRange = 6
number_of SmallOutput = 7
number_of WentBack = 8
number_of LongArea = 13
number_of Unsigned = 14
number_of CutHeaders = 15
number_of NoHeader = 16
number_of TableOutside = 17
number_of LargeAllowance = 18
number_of LongData = 20
number_of AddressOutside = 21
number_of DataOutside = 22
number_of NoRoom = 23
