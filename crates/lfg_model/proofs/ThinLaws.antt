-- A thin file says one draft at most, and gives one grammar at most.
use Rattle.std.proofs.Common.{◌≡◌, ◌≢◌, ℕ, Bool, Option, Some, List, [], ◌∷◌, refl, ap, sym, ◌∙◌, subst}
use Rattle.std.proofs.lemmas.Bool.{false≢true}
use Rattle.std.proofs.lemmas.Cmp.{nat_list_cmp_total}
use Rattle.lfg_terms.specs.Order.{name_cmp}
use Rattle.lfg_terms.specs.declared.grammar.Grammar.{Grammar}
use Rattle.lfg_model.specs.declared.lexeme.Lexeme.{Lexeme}
use Rattle.lfg_model.specs.declared.token.Token.{Token}
use Rattle.lfg_model.specs.Lists.{In, here, later}
use Rattle.lfg_model.specs.Terms.{Name}
use Rattle.lfg_model.specs.Thin.{Phrase, Entry, Draft, IsCategory, Gives, IsThinGrammar}
use Rattle.lfg_model.specs.ThinText.{Row, done, more, is_nothing, is_entry_end, up_to, is_stop, is_divider, IsEnded, IsDaughter, IsEquation, IsPhrase, IsEntry, daughter_at, equation_at, behind_arrow, behind_star, Heading, IsSection, IsFilled, IsConfig, root_at, AreSections, Says, lexemes_of, ThinFile, OneThinGrammar}
use Rattle.lfg_model.proofs.Ascending.{one_list, once_from_total}
use Rattle.lfg_model.proofs.OneReading.{one_row as same_tokens}

same_some : {X : Type 0} (x y : X) → Some x ≡ Some y → x ≡ y
same_some x y e = cc

read_once : {X : Type 0} (o : Option (X × List Lexeme)) (x y : X) (b c : List Lexeme) → o ≡ Some (x, b) → o ≡ Some (y, c) → (x ≡ y) × (b ≡ c)
read_once {X} o x y b c e f =
    let p : ◌≡◌ {A = X × List Lexeme} (x, b) (y, c) = same_some _ _ (sym e ∙ f) in
    (ap (λ (r : X × List Lexeme). r.0) p, ap (λ (r : X × List Lexeme). r.1) p)

-- what stands in front is one thing
abbrev StandsOnce : {X : Type 0} → (List Lexeme → X → List Lexeme → Type 0) → Type 0
StandsOnce {X} Stands = (ls : List Lexeme) (x y : X) (b c : List Lexeme) → Stands ls x b → Stands ls y c → (x ≡ y) × (b ≡ c)

row_once : {X : Type 0} (is_end : List Lexeme → Bool) (Stands : List Lexeme → X → List Lexeme → Type 0) → StandsOnce Stands
    → (ls : List Lexeme) (xs ys : List X) → Row is_end Stands ls xs → Row is_end Stands ls ys → xs ≡ ys
row_once is_end Stands one ls [] [] (done e) (done f) = refl
row_once is_end Stands one ls [] (y ∷ ys) (done e) (more f s r) = absurd (false≢true (sym f ∙ e))
row_once is_end Stands one ls (x ∷ xs) [] (more e s r) (done f) = absurd (false≢true (sym e ∙ f))
row_once is_end Stands one ls (x ∷ xs) (y ∷ ys) (more {rest = b} e s r) (more {rest = c} f t q) =
    let o = one ls x y b c s t in
    let p : xs ≡ ys = row_once is_end Stands one b xs ys r (subst (λ (us : List Lexeme). Row is_end Stands us ys) (sym o.1) q) in
    let h : x ≡ y = o.0 in
    cc

phrase_once : (ls : List Lexeme) (p q : Phrase) → IsPhrase ls p → IsPhrase ls q → p ≡ q
phrase_once ls p q r s =
    let h = read_once (behind_arrow ls) p.cat q.cat r.items s.items r.head s.head in
    let d : p.daughters ≡ q.daughters = row_once is_nothing IsDaughter (λ us x y b c e f. read_once (daughter_at us) x y b c e f) r.items p.daughters q.daughters r.row
    (subst (λ (us : List Lexeme). Row is_nothing IsDaughter us q.daughters) (sym h.1) s.row) in
    let c : p.cat ≡ q.cat = h.0 in
    λ i. record { cat = c i; daughters = d i }

entry_once : (ls : List Lexeme) (x y : Entry) → IsEntry ls x → IsEntry ls y → x ≡ y
entry_once ls x y r s =
    let h = read_once (behind_star ls) (record { form = x.form; cat = x.cat }) (record { form = y.form; cat = y.cat }) r.equations s.equations r.head s.head in
    let d : x.equations ≡ y.equations = row_once is_entry_end IsEquation (λ us u v b c e f. read_once (equation_at us) u v b c e f) r.equations x.equations y.equations r.row
    (subst (λ (us : List Lexeme). Row is_entry_end IsEquation us y.equations) (sym h.1) s.row) in
    let f : x.form ≡ y.form = ap (λ (k : Heading). k.form) h.0 in
    let c : x.cat ≡ y.cat = ap (λ (k : Heading). k.cat) h.0 in
    λ i. record { form = f i; cat = c i; equations = d i }

ended_once : {X : Type 0} (Is : List Lexeme → X → Type 0) → ((ls : List Lexeme) (x y : X) → Is ls x → Is ls y → x ≡ y) → StandsOnce (IsEnded Is)
ended_once Is one ls x y b c r s =
    let h = read_once (up_to is_stop ls) r.entry s.entry b c r.cut s.cut in
    (one s.entry x y (subst (λ (us : List Lexeme). Is us x) h.0 r.is) s.is, h.1)

section_once : (kind : Name) (section xs ys : List Lexeme) → IsSection kind section xs → IsSection kind section ys → xs ≡ ys
section_once kind section xs ys r s = same_some xs ys (sym r.heading ∙ s.heading)

filled_once : {X : Type 0} (kind : Name) (Stands : List Lexeme → X → List Lexeme → Type 0) → StandsOnce Stands → (section : List Lexeme) (xs ys : List X) → IsFilled kind Stands section xs → IsFilled kind Stands section ys → xs ≡ ys
filled_once kind Stands one section xs ys r s =
    row_once is_nothing Stands one s.entries xs ys (subst (λ (us : List Lexeme). Row is_nothing Stands us xs) (section_once kind section r.entries s.entries r.is s.is) r.row) s.row

config_once : (section : List Lexeme) (x y : Name) → IsConfig section x → IsConfig section y → x ≡ y
config_once section x y r s = same_some x y (sym r.root ∙ ap root_at (section_once _ section r.entries s.entries r.is s.is) ∙ s.root)

record SameSections (a b c x y z : List Lexeme) : Type 0 where
  config : a ≡ x
  rules : b ≡ y
  lexicon : c ≡ z

sections_once : (ls a b c x y z : List Lexeme) → AreSections ls a b c → AreSections ls x y z → SameSections a b c x y z
sections_once ls a b c x y z r s =
    let p = read_once (up_to is_divider ls) a x r.behind_config s.behind_config r.first s.first in
    let q = read_once (up_to is_divider r.behind_config) b y r.behind_rules s.behind_rules r.second (ap (up_to is_divider) p.1 ∙ s.second) in
    let o = read_once (up_to is_divider r.behind_rules) c z [] [] r.third (ap (up_to is_divider) q.1 ∙ s.third) in
    record { config = p.0; rules = q.0; lexicon = o.0 }

-- the lexemes say one draft
pub says_once : (ls : List Lexeme) (d e : Draft) → Says ls d → Says ls e → d ≡ e
says_once ls d e r s =
    let same = sections_once ls r.config r.rules r.lexicon s.config s.rules s.lexicon r.sections s.sections in
    let root : d.root ≡ e.root = config_once s.config d.root e.root (subst (λ (us : List Lexeme). IsConfig us d.root) same.config r.root) s.root in
    let phrases : d.phrases ≡ e.phrases =
    filled_once _ (IsEnded IsPhrase) (ended_once IsPhrase phrase_once) s.rules d.phrases e.phrases (subst (λ (us : List Lexeme). IsFilled _ (IsEnded IsPhrase) us d.phrases) same.rules r.phrases) s.phrases in
    let entries : d.entries ≡ e.entries =
    filled_once _ (IsEnded IsEntry) (ended_once IsEntry entry_once) s.lexicon d.entries e.entries (subst (λ (us : List Lexeme). IsFilled _ (IsEnded IsEntry) us d.entries) same.lexicon r.entries) s.entries in
    λ i. record { root = root i; phrases = phrases i; entries = entries i }

-- a draft gives one grammar
gives_once : (d : Draft) (g h : Grammar) → Gives d g → Gives d h → g ≡ h
gives_once d g h r s =
    let root : g.root ≡ h.root = r.root ∙ sym s.root in
    let governable : g.governable ≡ h.governable = r.governable ∙ sym s.governable in
    let gensize : g.gensize ≡ h.gensize = r.gensize ∙ sym s.gensize in
    let maxfacts : g.maxfacts ≡ h.maxfacts = r.maxfacts ∙ sym s.maxfacts in
    let cats : g.cats ≡ h.cats = one_list name_cmp (once_from_total nat_list_cmp_total) (IsCategory d) g.cats h.cats r.cats s.cats in
    let rules : g.rules ≡ h.rules = r.rules ∙ sym s.rules in
    let lexicon : g.lexicon ≡ h.lexicon = r.lexicon ∙ sym s.lexicon in
    λ i. record { root = root i; governable = governable i; gensize = gensize i; maxfacts = maxfacts i; cats = cats i; rules = rules i; lexicon = lexicon i }

-- the lexemes of a text are one list
pub lexemes_once : (ts us : List Token) (ls ms : List Lexeme) → ts ≡ us → lexemes_of ts ≡ Some ls → lexemes_of us ≡ Some ms → ls ≡ ms
lexemes_once ts us ls ms e r s = same_some ls ms (sym r ∙ ap lexemes_of e ∙ s)

pub one_thin_grammar : OneThinGrammar
one_thin_grammar bytes g h r s =
    let l = lexemes_once r.tokens s.tokens r.lexemes s.lexemes (same_tokens r.read s.read) r.spelled s.spelled in
    let d = says_once s.lexemes r.draft s.draft (subst (λ (us : List Lexeme). Says us r.draft) l r.says) s.says in
    gives_once s.draft g h (subst (λ (x : Draft). Gives x g) d r.gives) s.gives

pub in_row : {xs : List Phrase} {ls : List Lexeme} {p : Phrase} → Row is_nothing (IsEnded IsPhrase) ls xs → In p xs → p.daughters ≢ []
in_row (done e) r = elim r [ ]
in_row (more e s r) here = s.is.filled
in_row (more e s r) (later i) = in_row r i

pub thin_file_is_thin : (bytes : List ℕ) (g : Grammar) → ThinFile bytes g → IsThinGrammar g
thin_file_is_thin bytes g t = record { draft = t.draft; consistent = t.consistent; filled = λ p i. in_row t.says.phrases.row i; gives = t.gives }
