-- The pass up the ladder, and the price that it answers.
use Rattle.std.specs.Prelude.{ℕ, ◌+◌, cond, List, [], ◌∷◌, filter, map, fold, Some, None, Option, ◌==◌}
use Rattle.sheets.specs.Sides.{Sides}
use Rattle.pricing.specs.declared.rung.Indication.{Indication}
use Rattle.pricing.specs.declared.tally.Tally.{Tally}
use Rattle.pricing.specs.Ladder.{between, ladder}
use Rattle.pricing.specs.Pricing.{Interest, interest_of, price, volume}
use Rattle.pricing.specs.Tallies.{rung_at, alone_of, next_of, indicated}

-- the tally of the rung at `first` and of those of the ticks over it up to `high`
abbrev pub tally_over : List ℕ → Interest → ℕ → ℕ → Tally
tally_over ticks m first high = fold (next_of m.reference) (alone_of (rung_at m first)) (map (rung_at m) (filter (between (first + 1) high) ticks))

-- the price that the steps choose, with its volume and imbalance; none where nothing can trade at it
abbrev pub indicated_at : Interest → ℕ → Option Indication
indicated_at m p = cond (volume m p == 0) None (Some (indicated (rung_at m p)))

abbrev pub auction_on : Interest → List ℕ → Option Indication
auction_on m [] = None
auction_on m (t ∷ ts) = indicated_at m (price m t ts)

-- the price of the auction over the ladder of the orders that stand
abbrev pub auction_at : List ℕ → Sides → ℕ → Option Indication
auction_at ticks s reference = auction_on (interest_of s reference) (ladder ticks s reference)
