use Rattle.std.proofs.Common.{sym, refl, subst, map, Option, inl, inr, ◌++◌, [], ◌∷◌}
use Rattle.std.specs.Option.{option_map}
use Rattle.lfg_model.specs.TemplateRules.{Repeated, head_entry, head_name}
use Rattle.lfg_templates.specs.Spots.{Spot, Finds}
use Rattle.lfg_templates.specs.Views.{head_of, spot_of}
use Rattle.lfg_templates.proofs.Firsts.{finds_more, finds_same}
use Rattle.lfg_templates.proofs.heads.with_head.Goals as goal

pub returns-then-heads_another : goal.returns-then-heads_another
returns-then-heads_another c = λ hs es t f.
    subst (λ (o : Option Spot). Finds head_entry head_name Repeated (hs ++ record { head = head_of c.args.head; earlier = es } ∷ []) o) (sym c.earlier.ensures)
    (finds_more head_entry head_name Repeated hs (option_map spot_of c.args.first) (record { head = head_of c.args.head; earlier = es }) f (inl (c.heads_another.ensures.yes c.if-heads_another.true es (head_of c.args.head) refl t)))

pub returns-then-branch : goal.returns-then-branch
returns-then-branch c = λ hs es t f.
    subst (λ (o : Option Spot). Finds head_entry head_name Repeated (hs ++ record { head = head_of c.args.head; earlier = es } ∷ []) o) (sym c.earlier-then-branch.ensures)
    (finds_more head_entry head_name Repeated hs (option_map spot_of c.args.first) (record { head = head_of c.args.head; earlier = es }) f (inr (c.in_ok-is_twice.ensures.yes c.if-branch.true)))

pub returns : goal.returns
returns c = λ hs es t f. finds_same head_entry head_name Repeated hs (option_map spot_of c.args.first) (record { head = head_of c.args.head; earlier = es }) f
    (λ r. elim r [ inl a ↦ c.heads_another.ensures.no c.if-heads_another.false es (head_of c.args.head) refl t a | inr b ↦ c.in_ok-is_twice.ensures.no c.if-branch.false b ])
