-- What stands in a section: rules, words and the root.
use Rattle.std.proofs.Common.{◌≡◌, ◌≢◌, Option, Some, None, List, [], ap, sym, ◌∙◌, subst, codes}
use Rattle.lfg_model.specs.declared.lexeme.Lexeme.{Lexeme}
use Rattle.lfg_model.specs.Terms.{Name}
use Rattle.lfg_model.specs.Thin.{Daughter, Phrase, Equation, Entry, Draft}
use Rattle.lfg_model.specs.ThinText.{Row, is_nothing, is_entry_end, up_to, is_stop, is_divider, IsEnded, IsDaughter, IsEquation, IsPhrase, IsEntry, behind_arrow, behind_star, Heading, IsSection, IsFilled, IsConfig, root_at, behind_heading, AreSections, Says}
use Rattle.xle_run.proofs.Rows.{read_once, unread, empty_row, same_some}

-- ---- what is ended by a stop

pub ended_once : {X : Type 0} (Is : List Lexeme → X → Type 0) (ls : List Lexeme) (x y : X) (b c : List Lexeme) → IsEnded Is ls x b → IsEnded Is ls y c → b ≡ c
ended_once Is ls x y b c r s = (read_once (up_to is_stop ls) r.entry s.entry b c r.cut s.cut).1

pub uncut : {X : Type 0} (Is : List Lexeme → X → Type 0) (ls : List Lexeme) → up_to is_stop ls ≡ None → (x : X) (b : List Lexeme) → IsEnded Is ls x b → ⊥
uncut Is ls e x b r = unread (up_to is_stop ls) e r.entry b r.cut

pub none_ended : {X : Type 0} (Is : List Lexeme → X → Type 0) (ls entry rest : List Lexeme) → up_to is_stop ls ≡ Some (entry, rest) → ((x : X) → Is entry x → ⊥) → (x : X) (b : List Lexeme) → IsEnded Is ls x b → ⊥
none_ended Is ls entry rest e never x b r = never x (subst (λ (us : List Lexeme). Is us x) (read_once (up_to is_stop ls) r.entry entry b rest r.cut e).0 r.is)

pub is_ended : {X : Type 0} (Is : List Lexeme → X → Type 0) (ls entry rest : List Lexeme) (x : X) → up_to is_stop ls ≡ Some (entry, rest) → Is entry x → IsEnded Is ls x rest
is_ended Is ls entry rest x e i = record { entry = entry; cut = e; is = i }

-- ---- rules

pub no_arrow : (ls : List Lexeme) → behind_arrow ls ≡ None → (p : Phrase) → IsPhrase ls p → ⊥
no_arrow ls e p r = unread (behind_arrow ls) e p.cat r.items r.head

pub row_of_phrase : (ls : List Lexeme) (cat : Name) (items : List Lexeme) → behind_arrow ls ≡ Some (cat, items) → (p : Phrase) → IsPhrase ls p → Row is_nothing IsDaughter items p.daughters
row_of_phrase ls cat items e p r = subst (λ (us : List Lexeme). Row is_nothing IsDaughter us p.daughters) (read_once (behind_arrow ls) p.cat cat r.items items r.head e).1 r.row

pub no_daughters : (ls : List Lexeme) (cat : Name) (items : List Lexeme) → behind_arrow ls ≡ Some (cat, items) → ((ds : List Daughter) → Row is_nothing IsDaughter items ds → ⊥) → (p : Phrase) → IsPhrase ls p → ⊥
no_daughters ls cat items e never p r = never p.daughters (row_of_phrase ls cat items e p r)

pub empty_phrase : (ls : List Lexeme) (cat : Name) (items : List Lexeme) → behind_arrow ls ≡ Some (cat, items) → (ds : List Daughter) → ds ≡ [] → Row is_nothing IsDaughter items ds → (p : Phrase) → IsPhrase ls p → ⊥
empty_phrase ls cat items e ds z row p r =
    r.filled (empty_row is_nothing IsDaughter items p.daughters (subst (λ (us : List Daughter). Row is_nothing IsDaughter items us) z row) (row_of_phrase ls cat items e p r))

-- ---- words

pub no_star : (ls : List Lexeme) → behind_star ls ≡ None → (x : Entry) → IsEntry ls x → ⊥
no_star ls e x r = unread (behind_star ls) e (record { form = x.form; cat = x.cat }) r.equations r.head

pub no_equations : (ls : List Lexeme) (h : Heading) (rest : List Lexeme) → behind_star ls ≡ Some (h, rest) → ((es : List Equation) → Row is_entry_end IsEquation rest es → ⊥) → (x : Entry) → IsEntry ls x → ⊥
no_equations ls h rest e never x r =
    never x.equations (subst (λ (us : List Lexeme). Row is_entry_end IsEquation us x.equations) (read_once (behind_star ls) (record { form = x.form; cat = x.cat }) h r.equations rest r.head e).1 r.row)

-- ---- sections

pub same_entries : (kind : Name) (section xs ys : List Lexeme) → behind_heading kind section ≡ Some xs → IsSection kind section ys → ys ≡ xs
same_entries kind section xs ys e s = same_some ys xs (sym s.heading ∙ e)

module _ {X : Type 0} (kind : Name) (Stands : List Lexeme → X → List Lexeme → Type 0) (section entries : List Lexeme) (is : IsSection kind section entries) where
  row_in : (xs : List X) → IsFilled kind Stands section xs → Row is_nothing Stands entries xs
  row_in xs f = subst (λ (us : List Lexeme). Row is_nothing Stands us xs) (same_entries kind section entries f.entries is.heading f.is) f.row

  pub no_row : ((xs : List X) → Row is_nothing Stands entries xs → ⊥) → (xs : List X) → IsFilled kind Stands section xs → ⊥
  no_row never xs f = never xs (row_in xs f)

  pub unfilled : (ys : List X) → ys ≡ [] → Row is_nothing Stands entries ys → (xs : List X) → IsFilled kind Stands section xs → ⊥
  unfilled ys z row xs f = f.filled (empty_row is_nothing Stands entries xs (subst (λ (us : List X). Row is_nothing Stands entries us) z row) (row_in xs f))

  pub is_filled : (xs : List X) → Row is_nothing Stands entries xs → xs ≢ [] → IsFilled kind Stands section xs
  is_filled xs row n = record { entries = entries; is = is; row = row; filled = n }

pub no_section : {X : Type 0} (kind : Name) (Stands : List Lexeme → X → List Lexeme → Type 0) (section : List Lexeme) → ((es : List Lexeme) → IsSection kind section es → ⊥) → (xs : List X) → IsFilled kind Stands section xs → ⊥
no_section kind Stands section never xs f = never f.entries f.is

pub no_root : (section entries : List Lexeme) (kind : Name) → IsSection kind section entries → root_at entries ≡ None → (es : List Lexeme) (cat : Name) → IsSection kind section es → root_at es ≡ Some cat → ⊥
no_root section entries kind is e es cat s r = none_some cat (sym (ap root_at (same_entries kind section entries es is.heading s) ∙ e) ∙ r)
  where
    none_some : (z : Name) → ◌≡◌ {A = Option Name} None (Some z) → ⊥
    none_some z s = cc

-- ---- the file

pub record SameSections (a b c x y z : List Lexeme) : Type 0 where
  pub config : a ≡ x
  pub rules : b ≡ y
  pub lexicon : c ≡ z

pub sections_once : (ls a b c x y z : List Lexeme) → AreSections ls a b c → AreSections ls x y z → SameSections a b c x y z
sections_once ls a b c x y z r s =
    let p = read_once (up_to is_divider ls) a x r.behind_config s.behind_config r.first s.first in
    let q = read_once (up_to is_divider r.behind_config) b y r.behind_rules s.behind_rules r.second (ap (up_to is_divider) p.1 ∙ s.second) in
    let o = read_once (up_to is_divider r.behind_rules) c z [] [] r.third (ap (up_to is_divider) q.1 ∙ s.third) in
    record { config = p.0; rules = q.0; lexicon = o.0 }

module _ (ls a b c : List Lexeme) (sections : AreSections ls a b c) where
  pub no_config : ((root : Name) → IsConfig a root → ⊥) → (d : Draft) → Says ls d → ⊥
  no_config never d s = never d.root (subst (λ (us : List Lexeme). IsConfig us d.root) (sections_once ls s.config s.rules s.lexicon a b c s.sections sections).config s.root)

  pub no_phrases : ((ps : List Phrase) → IsFilled (codes "RULES") (IsEnded IsPhrase) b ps → ⊥) → (d : Draft) → Says ls d → ⊥
  no_phrases never d s = never d.phrases (subst (λ (us : List Lexeme). IsFilled (codes "RULES") (IsEnded IsPhrase) us d.phrases) (sections_once ls s.config s.rules s.lexicon a b c s.sections sections).rules s.phrases)

  pub no_words : ((xs : List Entry) → IsFilled (codes "LEXICON") (IsEnded IsEntry) c xs → ⊥) → (d : Draft) → Says ls d → ⊥
  no_words never d s = never d.entries (subst (λ (us : List Lexeme). IsFilled (codes "LEXICON") (IsEnded IsEntry) us d.entries) (sections_once ls s.config s.rules s.lexicon a b c s.sections sections).lexicon s.entries)

pub no_sections : (ls : List Lexeme) → ((a b c : List Lexeme) → AreSections ls a b c → ⊥) → (d : Draft) → Says ls d → ⊥
no_sections ls never d s = never s.config s.rules s.lexicon s.sections
