-- The words of a side and a kind.
use Rattle.std.specs.Prelude.{ℕ, List, codes}
use Rattle.market.specs.declared.order.Side.{Side}
use Rattle.market.specs.declared.order.Side.TheVariants.{Buy, Offer}
use Rattle.market.specs.declared.order.Kind.{Kind}
use Rattle.market.specs.declared.order.Kind.TheVariants.{Limit, Market}

abbrev pub side_word : Side → List ℕ
side_word Buy = codes "buy"
side_word Offer = codes "offer"

abbrev pub kind_word : Kind → List ℕ
kind_word Limit = codes "limit"
kind_word Market = codes "market"
