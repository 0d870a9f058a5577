use Rattle.std.proofs.Common.{◌≡◌, [], add-one, Some, sym, ap, ◌∙◌, arith, drop, true, false, get_or}
use Rattle.std.proofs.lemmas.Grind.{common_steps}
use Rattle.std.specs.Prelude.{nat_eq}
use Rattle.std.specs.Cmp.Lexicographic.{pointwise}
use Rattle.std.specs.FinMap as finite
use Rattle.std.specs.FinMap.{get-empty}
use Rattle.lfg_io.specs.MemShelf.{files_of, told}
use Rattle.lfg_io.proofs.Found.{named, passed}
use Rattle.lfg_io.proofs.mem_shelf.MemShelf.find.Goals as goal

pub returns-then-eq : goal.returns-then-eq
returns-then-eq c =
    let files = c.deref-known-items.result.now in
    let i = c.loop-known.known-index in
    let d = c.loop-known-item.result in
    let name = c.args.name.now in
    let same : pointwise nat_eq name (get_or files i d).0 ≡ true =
    ap (λ file. pointwise nat_eq name file.0) (sym c.loop-known-item.is) ∙ ap (pointwise nat_eq name) (sym c.text.ensures) ∙ sym c.eq.ensures ∙ c.if-eq.true in
    c.loop-known.invariant ∙ named files i d name c.loop-known-test.true same ∙ ap (λ file. Some file.1.items) (sym c.loop-known-item.is)

pub loop-known-preserved : goal.loop-known-preserved
loop-known-preserved c =
    let files = c.deref-known-items.result.now in
    let i = c.loop-known.known-index in
    let d = c.loop-known-item.result in
    let name = c.args.name.now in
    let other : pointwise nat_eq name (get_or files i d).0 ≡ false =
    ap (λ file. pointwise nat_eq name file.0) (sym c.loop-known-item.is) ∙ ap (pointwise nat_eq name) (sym c.text.ensures) ∙ sym c.eq.ensures ∙ c.if-eq.false in
    c.loop-known.invariant ∙ passed files i d name c.loop-known-test.true other
    ∙ ap (λ k. finite.get (files_of (told (drop k files))) name) (sym (add-one i))

pub returns : goal.returns
returns c =
    let none_left : drop c.loop-known.known-index c.deref-known-items.result.now ≡ [] = grind (arith, common_steps) in
    c.loop-known.invariant ∙ ap (λ files. finite.get (files_of (told files)) c.args.name.now) none_left ∙ get-empty _ _
