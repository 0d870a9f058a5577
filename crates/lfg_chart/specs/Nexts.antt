-- The ways to go on at a point, by the numbers of categories.
use Rattle.std.specs.Prelude.{◌≡◌, ◌⊎◌, ℕ, ◌<◌, Option, Some, None, List, slice_get}
use Rattle.lfg_model.specs.declared.point.Next.{Next}
use Rattle.lfg_model.specs.declared.point.Next.TheVariants as next
use Rattle.lfg_model.specs.declared.point.Point.{Point}
use Rattle.lfg_model.specs.Lists.{In}
use Rattle.lfg_model.specs.Terms.{Name}
use Rattle.lfg_chart.specs.declared.links.Link.{Link}
use Rattle.lfg_chart.specs.declared.links.RuleLinks.{RuleLinks}
use Rattle.lfg_chart.specs.declared.table.Row.TheVariants.{Whole, Left}
use Rattle.lfg_chart.specs.declared.table.Table.{Table}
use Rattle.lfg_chart.specs.Filling.{Rules, IsRule}
use Rattle.lfg_chart.specs.Tables.{Holds}

-- over the link's item, which ends at the place, and from there the rule can come to its end
pub record IsNextTo (table : Table) (cat to : ℕ) (link : Link) (mid : ℕ) (n : Next) : Type 0 where
  pub is : n ≡ next.Item link.item mid
  pub left : Holds table (Left cat link.item) mid to

-- the item is this category
pub record IsNextAt (table : Table) (cat to : ℕ) (link : Link) (below at mid : ℕ) (n : Next) : Type 0 where
  pub whole : Holds table (Whole below) at mid
  pub onward : IsNextTo table cat to link mid n

-- to one of the first `count` places
abbrev pub IsNextOver : Table → ℕ → ℕ → Link → ℕ → ℕ → ℕ → Next → Type 0
IsNextOver table cat to link below at count n = (mid : ℕ) × (mid < count) × IsNextAt table cat to link below at mid n

-- the item is empty or a category
abbrev pub IsNextVia : Option ℕ → Table → ℕ → ℕ → Link → ℕ → Next → Type 0
IsNextVia None table cat to link at n = IsNextTo table cat to link at n
IsNextVia (Some below) table cat to link at n = IsNextOver table cat to link below at table.size n

-- the link leads on from this item
abbrev pub NextsAt : Table → ℕ → ℕ → ℕ → ℕ → Link → Next → Type 0
NextsAt table cat to before at link n = (link.before ≡ before) × IsNextVia link.cat table cat to link at n

-- one of the links does
abbrev pub NextsBy : Table → ℕ → ℕ → List Link → ℕ → ℕ → Next → Type 0
NextsBy table cat to links before at n = (link : Link) × In link links × NextsAt table cat to before at link n

-- so does a link of the rule, or the rule ends here
abbrev pub AreNexts : RuleLinks → Table → ℕ → ℕ → ℕ → ℕ → Next → Type 0
AreNexts rule table cat to before at n = NextsBy table cat to rule.links.items before at n ⊎ ((at ≡ to) × In before rule.lasts.items × (n ≡ next.End))

-- at the point, by the rule of its edge's category
abbrev pub NextsOf : Rules → List Name → Table → Point → Next → Type 0
NextsOf rules cats table point n =
    (number : ℕ) × (slice_get cats number ≡ Some point.edge.cat) × ((rule : RuleLinks) × IsRule rules number rule × AreNexts rule table number point.edge.to point.occ point.at n)
