-- The kinds as values: the number of each, and the kind that a number stands for (RULES, Events).
use Rattle.std.specs.Prelude.{ℕ, false, ◌≡◌, Result, MatchResult}
use Rattle.kinds.specs.Kinds.{SELECT, EXCHANGE, DESELECT, TICK, TICKS, WP, POWER, STAMP, known_in_script}
use Rattle.kinds.specs.declared.Kind.{Kind}
use Rattle.kinds.specs.declared.Kind.TheVariants.{Select, Exchange, Deselect, Tick, Ticks, Wp, Power, Stamp}
use Rattle.kinds.specs.declared.UnknownKind.{UnknownKind}

-- the number of a kind
abbrev pub number_of : Kind → ℕ
number_of Select = SELECT
number_of Exchange = EXCHANGE
number_of Deselect = DESELECT
number_of Tick = TICK
number_of Ticks = TICKS
number_of Wp = WP
number_of Power = POWER
number_of Stamp = STAMP

-- the kind that has a number, or that no kind has it
abbrev pub Numbered : ℕ → Result Kind UnknownKind → Type 0
Numbered number r = MatchResult r (λ kind. number_of kind ≡ number) (λ _. known_in_script number ≡ false)
