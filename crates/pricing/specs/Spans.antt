-- The span of some prices, as a pass over a side keeps it.
use Rattle.std.specs.Prelude.{ℕ, min, max, List, [], ◌∷◌, Some, None, Option}
use Rattle.pricing.specs.declared.span.Span.{Span}
use Rattle.pricing.specs.Ladder.{lowest, highest}

-- the lowest and the highest of some prices
abbrev pub span_of : List ℕ → Option Span
span_of [] = None
span_of (p ∷ ps) = Some (record { low = lowest p ps; high = highest p ps })

-- with one price more
abbrev pub widened : Option Span → ℕ → Span
widened None p = record { low = p; high = p }
widened (Some s) p = record { low = min s.low p; high = max s.high p }

-- the span of two lots of prices together
abbrev pub joined_spans : Option Span → Option Span → Option Span
joined_spans None t = t
joined_spans (Some s) None = Some s
joined_spans (Some s) (Some t) = Some (record { low = min s.low t.low; high = max s.high t.high })
