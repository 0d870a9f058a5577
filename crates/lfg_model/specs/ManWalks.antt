-- The readings of `the man walks` by a small grammar, as a law.
use Rattle.std.specs.Prelude.{◌≡◌, true, false, Some, None, List, [], ◌∷◌, ◌++◌, ℕ, codes}
use Rattle.lfg_terms.specs.declared.node.Edge.{Edge}
use Rattle.lfg_terms.specs.declared.node.Node as node
use Rattle.lfg_terms.specs.declared.node.Node.{Node}
use Rattle.lfg_terms.specs.declared.node.Arg as arg
use Rattle.lfg_terms.specs.declared.node.Fact.{Fact}
use Rattle.lfg_terms.specs.declared.grammar.Arrow.TheVariants.{Up, Down}
use Rattle.lfg_terms.specs.declared.grammar.Val.TheVariants as val
use Rattle.lfg_terms.specs.declared.grammar.Schema as schema
use Rattle.lfg_terms.specs.declared.grammar.Item.{Item}
use Rattle.lfg_terms.specs.declared.grammar.Graph.{Graph}
use Rattle.lfg_terms.specs.declared.grammar.Grammar.{Grammar}
use Rattle.lfg_terms.specs.declared.tree.TokenForms.{TokenForms}
use Rattle.lfg_model.specs.declared.pair.Pair.{Pair}
use Rattle.lfg_model.specs.Terms.{Name, Path, Paths}
use Rattle.lfg_model.specs.Derive.{edge}
use Rattle.lfg_model.specs.Trees.{under, word}
use Rattle.lfg_model.specs.PairTexts.{pair_text}
use Rattle.lfg_model.specs.Readings.{has_attribute, IsReadings}

-- ^=!
abbrev pub head : schema.Schema Paths
head = schema.Define (record { arrow = Up; path = None }) (val.Des (record { arrow = Down; path = None }))

-- (^ A)=!
abbrev pub function : Name → schema.Schema Paths
function a = schema.Define (record { arrow = Up; path = Some ((a ∷ []) ∷ []) }) (val.Des (record { arrow = Down; path = None }))

-- (^ P)=v
abbrev pub feature : Path → Name → schema.Schema Paths
feature p v = schema.Define (record { arrow = Up; path = Some (p ∷ []) }) (val.Atom v)

abbrev pub item : Name → schema.Schema Paths → Item
item cat s = record { cat = Some cat; schemata = s ∷ [] }

-- the graphs of one item, and of two in a row
abbrev pub one_item : Graph
one_item = record { size = 1; first = 1 ∷ []; next = [] ∷ []; last = true ∷ [] }

abbrev pub two_items : Graph
two_items = record { size = 2; first = 1 ∷ []; next = (2 ∷ []) ∷ [] ∷ []; last = false ∷ true ∷ [] }

-- S --> NP: (^ SUBJ)=!; VP.   NP --> D N.   VP --> V.   with entries for `the`, `man` and `walks`,
-- of which `walks` asks for a subject of this number
abbrev pub grammar : Name → Grammar
grammar number = record {
  root = codes "S";
  governable = [];
  gensize = 60;
  maxfacts = 200000;
  cats = codes "D" ∷ codes "N" ∷ codes "NP" ∷ codes "S" ∷ codes "V" ∷ codes "VP" ∷ [];
  rules =
      record { cat = codes "S"; items = item (codes "NP") (function (codes "SUBJ")) ∷ item (codes "VP") head ∷ []; graph = two_items }
      ∷ record { cat = codes "NP"; items = item (codes "D") head ∷ item (codes "N") head ∷ []; graph = two_items }
      ∷ record { cat = codes "VP"; items = item (codes "V") head ∷ []; graph = one_item } ∷ [];
  lexicon =
      record { form = codes "the"; cat = codes "D"; schemata = feature (codes "DEF" ∷ []) (codes "yes") ∷ [] }
      ∷ record { form = codes "man"; cat = codes "N"; schemata = feature (codes "NUM" ∷ []) (codes "sg") ∷ [] }
      ∷ record {
        form = codes "walks";
        cat = codes "V";
        schemata = feature (codes "SUBJ" ∷ codes "NUM" ∷ []) number ∷ feature (codes "TENSE" ∷ []) (codes "pres") ∷ [];
      } ∷ [];
}

abbrev pub token : Name → TokenForms
token text = record { text = text; forms = text ∷ [] }

abbrev pub sentence : List TokenForms
sentence = token (codes "the") ∷ token (codes "man") ∷ token (codes "walks") ∷ []

abbrev pub S : Edge
S = edge (codes "S") 0 3

abbrev pub NP : Edge
NP = edge (codes "NP") 0 2

abbrev pub VP : Edge
VP = edge (codes "VP") 2 3

abbrev pub D : Edge
D = edge (codes "D") 0 1

abbrev pub N : Edge
N = edge (codes "N") 1 2

abbrev pub V : Edge
V = edge (codes "V") 2 3

abbrev pub has : Name → Edge → arg.Arg → Fact
has a e c = has_attribute a (arg.Node (node.At e [])) c

abbrev pub pair : Pair
pair = record {
  tree =
      under NP S ∷ under D NP ∷ under N NP ∷ under V VP ∷ under VP S
      ∷ word D (codes "the") ∷ word N (codes "man") ∷ word V (codes "walks") ∷ [];
  facts =
      has (codes "DEF") NP (arg.Atom (codes "yes")) ∷ has (codes "NUM") NP (arg.Atom (codes "sg"))
      ∷ has (codes "SUBJ") S (arg.Node (node.At NP [])) ∷ has (codes "TENSE") S (arg.Atom (codes "pres")) ∷ [];
}

abbrev pub text : List ℕ
text =
    codes "tree [S [NP [D the] [N man]] [VP [V walks]]]" ++ 10 ∷ codes "DEF(NP:0:2,yes)" ++ 10 ∷ codes "NUM(NP:0:2,sg)"
    ++ 10 ∷ codes "SUBJ(S:0:3,NP:0:2)" ++ 10 ∷ codes "TENSE(S:0:3,pres)" ++ 10 ∷ []

-- Law: the sentence has this one reading. If `walks` asks for a plural subject, it has none.
abbrev pub TheManWalks : Type 0
TheManWalks = IsReadings (grammar (codes "sg")) sentence (pair ∷ []) × (pair_text pair ≡ text) × IsReadings (grammar (codes "pl")) sentence []
