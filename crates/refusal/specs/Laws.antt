-- What follows from the table of refusals.
use Rattle.std.specs.Prelude.{ℕ, ◌≡◌, false, cond, eqb}
use Rattle.std.proofs.Common.{refl}
use Rattle.refusal.specs.declared.Refusal.{Refusal}
use Rattle.refusal.specs.declared.Refusal.TheVariants.{MemoryLength, IllegalState, LongScript, CutOff, UnknownKind, BodyRange, SmallOutput, WentBack, LongArea, Unsigned, CutHeaders, NoHeader, TableOutside, LargeAllowance, LongData, AddressOutside, DataOutside, NoRoom}
use Rattle.refusal.specs.Table.{number_of}

-- a refusal is never told by 0
pub refused : (e : Refusal) → eqb (number_of e) 0 ≡ false
refused MemoryLength = refl
refused IllegalState = refl
refused LongScript = refl
refused CutOff = refl
refused UnknownKind = refl
refused BodyRange = refl
refused SmallOutput = refl
refused WentBack = refl
refused LongArea = refl
refused Unsigned = refl
refused CutHeaders = refl
refused NoHeader = refl
refused TableOutside = refl
refused LargeAllowance = refl
refused LongData = refl
refused AddressOutside = refl
refused DataOutside = refl
refused NoRoom = refl

-- the refusal of a number, for a number that is a refusal's
pub refusal_by : ℕ → Refusal
refusal_by n =
    (cond (eqb n 1) MemoryLength
    (cond (eqb n 2) IllegalState
    (cond (eqb n 3) LongScript
    (cond (eqb n 4) CutOff
    (cond (eqb n 5) UnknownKind
    (cond (eqb n 6) BodyRange
    (cond (eqb n 7) SmallOutput
    (cond (eqb n 8) WentBack
    (cond (eqb n 13) LongArea
    (cond (eqb n 14) Unsigned
    (cond (eqb n 15) CutHeaders
    (cond (eqb n 16) NoHeader
    (cond (eqb n 17) TableOutside
    (cond (eqb n 18) LargeAllowance
    (cond (eqb n 20) LongData
    (cond (eqb n 21) AddressOutside
    (cond (eqb n 22) DataOutside
    NoRoom)))))))))))))))))

-- a refusal's number tells which it is
pub by_number : (e : Refusal) → refusal_by (number_of e) ≡ e
unfolding refusal_by
by_number MemoryLength = refl
by_number IllegalState = refl
by_number LongScript = refl
by_number CutOff = refl
by_number UnknownKind = refl
by_number BodyRange = refl
by_number SmallOutput = refl
by_number WentBack = refl
by_number LongArea = refl
by_number Unsigned = refl
by_number CutHeaders = refl
by_number NoHeader = refl
by_number TableOutside = refl
by_number LargeAllowance = refl
by_number LongData = refl
by_number AddressOutside = refl
by_number DataOutside = refl
by_number NoRoom = refl
