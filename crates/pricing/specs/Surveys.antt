-- What a side holds, as a walk along it counts. This serves inner functions.
use Rattle.std.specs.Prelude.{◌+◌, true, List, Some}
use Rattle.market.specs.declared.order.Kind.{Kind}
use Rattle.market.specs.declared.order.Kind.TheVariants.{Limit, Market}
use Rattle.market.specs.declared.order.Order.{Order}
use Rattle.pricing.specs.declared.survey.Survey.{Survey}
use Rattle.pricing.specs.Curves.{is_market, quantity_of}
use Rattle.pricing.specs.Ladder.{limits}
use Rattle.pricing.specs.Spans.{span_of, widened}

abbrev pub surveyed : List Order → Survey
surveyed os = record { market = quantity_of is_market os; all = quantity_of (λ _. true) os; limits = span_of (limits os) }

-- one order more
abbrev pub counted_by : Kind → Survey → Order → Survey
counted_by Market s o = record { market = s.market + o.quantity; all = s.all + o.quantity; limits = s.limits }
counted_by Limit s o = record { market = s.market; all = s.all + o.quantity; limits = Some (widened s.limits o.price) }

abbrev pub counted : Survey → Order → Survey
counted s o = counted_by o.kind s o
