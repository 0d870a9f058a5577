-- How a table is filled from the bottom: the least table over a first one that has what the rules
-- give.
use Rattle.std.specs.Prelude.{◌≡◌, ℕ, ◌<◌, ◌≤◌, Bool, Option, Some, None, List, slice_get}
use Rattle.lfg_model.specs.Lists.{In}
use Rattle.lfg_chart.specs.declared.links.Link.{Link}
use Rattle.lfg_chart.specs.declared.links.RuleLinks.{RuleLinks}
use Rattle.lfg_chart.specs.declared.table.Row.{Row}
use Rattle.lfg_chart.specs.declared.table.Row.TheVariants.{Whole, Read, Left}
use Rattle.lfg_chart.specs.declared.table.Table.{Table}
use Rattle.lfg_chart.specs.Tables.{Holds, IsRow, Step}

-- the rules by the numbers of their categories, none for a category without a rule
abbrev pub Rules : Type 0
Rules = List (Option RuleLinks)

-- the category with this number has this rule
abbrev pub IsRule : Rules → ℕ → RuleLinks → Type 0
IsRule rules cat rule = slice_get rules cat ≡ Some (Some rule)

-- the category's rule has this link
abbrev pub IsLink : Rules → ℕ → Link → Type 0
IsLink rules cat link = (rule : RuleLinks) × IsRule rules cat rule × In link rule.links.items

-- the category's rule may end behind this item
abbrev pub IsLast : Rules → ℕ → ℕ → Type 0
IsLast rules cat item = (rule : RuleLinks) × IsRule rules cat rule × In item rule.lasts.items

-- Rows that lead from each place to itself: that of nothing read of a rule, and those of what is left
-- behind an item that may end the rule.
pub data IsStart (rules : Rules) : Row → Type 0 where
  nothing_read : {cat : ℕ} (rule : RuleLinks) → IsRule rules cat rule → IsStart rules (Read cat 0)
  nothing_left : {cat item : ℕ} → IsLast rules cat item → IsStart rules (Left cat item)

-- The second row leads where the first does: a category wherever its rule is read to an end, and
-- what is read or left on over an empty item.
pub data IsCopy (rules : Rules) : Row → Row → Type 0 where
  all_read : {cat item : ℕ} → IsLast rules cat item → IsCopy rules (Read cat item) (Whole cat)
  empty_read : {cat : ℕ} (link : Link) → IsLink rules cat link → link.cat ≡ None → IsCopy rules (Read cat link.before) (Read cat link.item)
  empty_left : {cat : ℕ} (link : Link) → IsLink rules cat link → link.cat ≡ None → IsCopy rules (Left cat link.item) (Left cat link.before)

-- The third row leads where the first two do one behind the other: what is read goes on over a
-- category, and a category goes in front of what is left.
pub data IsJoin (rules : Rules) : Row → Row → Row → Type 0 where
  read_over : {cat below : ℕ} (link : Link) → IsLink rules cat link → link.cat ≡ Some below → IsJoin rules (Read cat link.before) (Whole below) (Read cat link.item)
  left_over : {cat below : ℕ} (link : Link) → IsLink rules cat link → link.cat ≡ Some below → IsJoin rules (Whole below) (Left cat link.item) (Left cat link.before)

-- what the rules give over a first table
pub data Filled (rules : Rules) (given : Table) : Row → ℕ → ℕ → Type 0 where
  first : {row : Row} {from to : ℕ} → Holds given row from to → Filled rules given row from to
  started : {row : Row} {at : ℕ} → IsStart rules row → at < given.size → Filled rules given row at at
  copied : {takes gives : Row} {from to : ℕ} → IsCopy rules takes gives → Filled rules given takes from to → Filled rules given gives from to
  joined : {left right gives : Row} {from mid to : ℕ} → IsJoin rules left right gives → Filled rules given left from mid → Filled rules given right mid to → Filled rules given gives from to

-- the table has no more than the rules give over the first
pub record IsSound (rules : Rules) (given table : Table) : Type 0 where
  pub each : (row : Row) (from to : ℕ) → Holds table row from to → Filled rules given row from to

-- the table has the rows of which the rules speak, and places for a sentence
pub record Ready (rules : Rules) (table : Table) : Type 0 where
  pub few : table.size ≤ 128
  pub starts : (row : Row) → IsStart rules row → IsRow table row
  pub copies : (takes gives : Row) → IsCopy rules takes gives → IsRow table takes × IsRow table gives
  pub joins : (left right gives : Row) → IsJoin rules left right gives → IsRow table left × IsRow table right × IsRow table gives

-- What each part of a sweep leaves: nothing is lost, nothing is wrong, and it is told whether
-- something is new.
pub record Turn (rules : Rules) (old new : Table) (changed : Bool) : Type 0 where
  pub ready : Ready rules new
  pub sound : IsSound rules old new
  pub step : Step old new changed

-- the table has from a place what a row that starts everywhere gives
pub record MeetsStart (row : Row) (table : Table) (from : ℕ) : Type 0 where
  pub each : Holds table row from from

-- what a copy gives
pub record MeetsCopy (takes gives : Row) (table : Table) (from : ℕ) : Type 0 where
  pub each : (to : ℕ) → Holds table takes from to → Holds table gives from to

-- what a join gives
pub record MeetsJoin (left right gives : Row) (table : Table) (from : ℕ) : Type 0 where
  pub each : (mid to : ℕ) → Holds table left from mid → Holds table right mid to → Holds table gives from to

-- what a link gives, to an empty item or to a category
abbrev pub MeetsLinkTo : Option ℕ → (cat before item : ℕ) (table : Table) (from : ℕ) → Type 0
MeetsLinkTo None cat before item table from = MeetsCopy (Read cat before) (Read cat item) table from × MeetsCopy (Left cat item) (Left cat before) table from
MeetsLinkTo (Some below) cat before item table from =
    MeetsJoin (Read cat before) (Whole below) (Read cat item) table from × MeetsJoin (Whole below) (Left cat item) (Left cat before) table from

abbrev pub MeetsLink : ℕ → Link → Table → ℕ → Type 0
MeetsLink cat link table from = MeetsLinkTo link.cat cat link.before link.item table from

-- what these links give
pub record MeetsLinks (cat : ℕ) (links : List Link) (table : Table) (from : ℕ) : Type 0 where
  pub each : (link : Link) → In link links → MeetsLink cat link table from

-- what an item that may end the rule gives
abbrev pub MeetsLast : ℕ → ℕ → Table → ℕ → Type 0
MeetsLast cat item table from = MeetsCopy (Read cat item) (Whole cat) table from × MeetsStart (Left cat item) table from

-- what these items give
pub record MeetsLasts (cat : ℕ) (items : List ℕ) (table : Table) (from : ℕ) : Type 0 where
  pub each : (item : ℕ) → In item items → MeetsLast cat item table from

-- what the rule of a category gives
pub record MeetsRule (cat : ℕ) (rule : RuleLinks) (table : Table) (from : ℕ) : Type 0 where
  pub start : MeetsStart (Read cat 0) table from
  pub links : MeetsLinks cat rule.links.items table from
  pub lasts : MeetsLasts cat rule.lasts.items table from

-- what the rules of the first `count` categories give
pub record MeetsRules (rules : Rules) (count : ℕ) (table : Table) (from : ℕ) : Type 0 where
  pub each : (cat : ℕ) (rule : RuleLinks) → cat < count → IsRule rules cat rule → MeetsRule cat rule table from

-- and all of them, from `low` on
pub record MeetsAll (rules : Rules) (table : Table) (low : ℕ) : Type 0 where
  pub each : (from : ℕ) (cat : ℕ) (rule : RuleLinks) → low ≤ from → from < table.size → IsRule rules cat rule → MeetsRule cat rule table from
