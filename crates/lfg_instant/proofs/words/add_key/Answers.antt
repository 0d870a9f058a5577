use Rattle.std.proofs.Common.{◌≡◌, arith}
use Rattle.lfg_chart.proofs.CellLaws.{true_is}
use Rattle.lfg_packed.specs.Words.{form_place}
use Rattle.lfg_instant.proofs.CollectLaws.{collects_none}
use Rattle.lfg_instant.proofs.WordLaws.{adds_key, no_key_form}
use Rattle.lfg_instant.proofs.words.add_key.Goals as goal

pub returns-in_ok-push : goal.returns-in_ok-push
returns-in_ok-push c =
    let place : c.place_of-place.result ≡ form_place c.args.token.now.forms c.args.lex.now.form = rw c.list-forms.ensures at c.place_of-place.ensures in
    adds_key c.args.lex.now c.args.entry c.place_of-place.result c.args.token.now c.args.cat.now _ _ (c.eq.ensures.same.0 (true_is c.if-eq.true)) place (rw c.list-forms.ensures at c.if-place-forms.true) c.in_ok-push.ensures.items

pub returns-else-place-forms : goal.returns-else-place-forms
returns-else-place-forms c =
    let place : c.place_of-place.result ≡ form_place c.args.token.now.forms c.args.lex.now.form = rw c.list-forms.ensures at c.place_of-place.ensures in
    collects_none _ _ (λ key k. no_key_form c.args.lex.now c.args.entry c.place_of-place.result c.args.token.now c.args.cat.now key place (let l = rw c.list-forms.ensures at c.if-place-forms.false in omega arith) k)
