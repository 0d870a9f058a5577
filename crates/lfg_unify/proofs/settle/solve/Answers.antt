use Rattle.std.proofs.Common.{◌≡◌, ℕ, List, length, sym, subst, arith}
use Rattle.lfg_context.specs.Seen.{Set}
use Rattle.lfg_unify.specs.Systems.{AddsThere, AddsGiven}
use Rattle.lfg_unify.proofs.SettleLaws.{start_sound, start_rounds, rounds_kept}
use Rattle.lfg_unify.proofs.settle.solve.Goals as goal

pub returns-clause-solves : goal.returns-clause-solves
returns-clause-solves c =
    let s = c.args.system.now in
    let none = c.in_ok-table.table in
    let one = c.place_there.new.table in
    let two = c.place_given.new.table in
    let t : AddsThere s.there.items none one = subst (λ (xs : List (ℕ × Set)). AddsThere xs none one) c.deref.ensures.value c.in_ok-place_there.ensures.adds in
    let g : AddsGiven s.given.items one two = subst (λ (xs : List ((ℕ × ℕ) × Set)). AddsGiven xs one two) c.deref-2.ensures.value c.in_ok-place_given.ensures.adds in
    let e = sym c.as_slice-arcs.ensures.value in
    let n : length s.there.items ≡ c.len.result = omega arith in
    let merged = c.in_ok-merge_all.ensures.growth in
    record {
      sound = c.in_ok-settle.ensures.growth.sound s e (merged.sound s e (start_sound s none one two c.in_ok-table.ensures.none t g));
      all = c.in_ok-settle.ensures.equal s c.args.count e n c.requires.system (rounds_kept s 0 two c.merge_all.new.table merged.keeps (start_rounds s none one two t g));
    }
