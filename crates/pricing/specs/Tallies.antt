-- The summary of the ticks so far, as the pass keeps it: each tick with the quantities bid and asked there. These serve inner functions.
use Rattle.std.specs.Prelude.{ℕ, ◌<◌, pos, ◌-ℤ◌, min, cond, ◌||◌, ◌&&◌, ◌==◌, nat_lt, Some, None, Option}
use Rattle.std.specs.Int.{abs_diff}
use Rattle.pricing.specs.Pricing.{Interest, Summary}
use Rattle.pricing.specs.declared.rung.Rung.{Rung}
use Rattle.pricing.specs.declared.rung.Indication.{Indication}
use Rattle.pricing.specs.declared.tally.Tally.{Tally}

abbrev pub volume_of : Rung → ℕ
volume_of r = min r.bid r.ask

abbrev pub excess_of : Rung → ℕ
excess_of r = abs_diff r.bid r.ask

abbrev pub gap_of : ℕ → Rung → ℕ
gap_of reference r = abs_diff reference r.price

-- a side holds at most 2,048 orders, each of less than 2^32
abbrev pub IsSmall : Rung → Type 0
IsSmall r = (r.bid < 8796093022208) × (r.ask < 8796093022208)

abbrev pub nearer_of : ℕ → Rung → Rung → Rung
nearer_of reference r s = cond (nat_lt (gap_of reference s) (gap_of reference r) || (gap_of reference s == gap_of reference r && nat_lt s.price r.price)) s r

-- a rung as the price of the auction
abbrev pub indicated : Rung → Indication
indicated r = record { price = r.price; volume = volume_of r; imbalance = pos r.bid -ℤ pos r.ask }

abbrev pub alone_of : Rung → Tally
alone_of r =
    record { best = volume_of r; least = excess_of r; low = r; high = r; near = r; positive = nat_lt r.ask r.bid; negative = nat_lt r.bid r.ask }

abbrev pub joined_of : ℕ → Tally → Rung → Tally
joined_of reference t r =
    record {
      best = t.best;
      least = t.least;
      low = cond (nat_lt r.price t.low.price) r t.low;
      high = cond (nat_lt t.high.price r.price) r t.high;
      near = nearer_of reference t.near r;
      positive = t.positive && nat_lt r.ask r.bid;
      negative = t.negative && nat_lt r.bid r.ask;
    }

abbrev pub next_of : ℕ → Tally → Rung → Tally
next_of reference t r =
    cond (nat_lt t.best (volume_of r) || (volume_of r == t.best && nat_lt (excess_of r) t.least)) (alone_of r)
    (cond (volume_of r == t.best && excess_of r == t.least) (joined_of reference t r) t)

abbrev pub answer_of : Tally → Rung
answer_of t = cond t.positive t.high (cond t.negative t.low t.near)

-- no price where nothing trades
abbrev pub auction_of : Tally → Option Indication
auction_of t = cond (t.best == 0) None (Some (indicated (answer_of t)))

-- ---- in the words of the steps

-- a tick with the quantities bid and asked there
abbrev pub rung_at : Interest → ℕ → Rung
rung_at m t = record { price = t; bid = m.demand t; ask = m.supply t }

-- a summary with its ticks as rungs
abbrev pub tally_of : Interest → Summary → Tally
tally_of m s =
    record { best = s.best; least = s.least; low = rung_at m s.low; high = rung_at m s.high; near = rung_at m s.near; positive = s.positive; negative = s.negative }
