use Rattle.std.proofs.Common.{◌≡◌, ℕ, ◌≤◌, ◌+◌, List, ◌++◌, take, drop, length, ◌-◌, length-drop, subst, sym, ap, ◌∙◌, append_assoc, arith}
use Rattle.std.specs.Prelude.{Option, Some, None}
use Rattle.std.proofs.Math.Seq.{take-add}
use Rattle.std.proofs.lemmas.List.{take_rest}
use Rattle.std.specs.Io.KnownBytes.{Appends}
use Rattle.lfg_io.proofs.std_sink.write_whole.Goals as goal

-- bytes written in two calls
Appends-more : (a b c : Option (List ℕ)) (all xs ys : List ℕ) → all ≡ xs ++ ys → Appends a b xs → Appends b c ys → Appends a c all
Appends-more None b c all xs ys e h k = tt
Appends-more (Some old) None c all xs ys e h k = absurd h
Appends-more (Some old) (Some now) None all xs ys e h k = absurd k
Appends-more (Some old) (Some now) (Some new) all xs ys e h k =
    k ∙ ap (λ bytes. bytes ++ ys) h ∙ append_assoc old xs ys ∙ ap (λ bytes. old ++ bytes) (sym e)

pub loop-taken-preserved : goal.loop-taken-preserved
loop-taken-preserved g c =
    let taken = c.loop-taken.taken in
    let count = c.in-Ok.count in
    let bytes = c.args.bytes.now in
    let now = g.W.Write.contents c.loop-taken.stream in
    let new = g.W.Write.contents c.write.new.self in
    let rest : take (length bytes - taken) (drop taken bytes) ≡ drop taken bytes = take_rest bytes taken in
    let within : count ≤ length (drop taken bytes) = subst (λ piece. count ≤ length piece) rest c.in-Ok.ensures.bound in
    let more = subst (λ piece. Appends now new (take count piece)) rest c.in-Ok.ensures.bytes in
    let whole = Appends-more (g.W.Write.contents c.args.stream.now) now new
    (take (taken + count) bytes) (take taken bytes) (take count (drop taken bytes)) (take-add taken count bytes) c.loop-taken.invariant.1 more in
    let fits : taken + count ≤ length bytes = omega (arith, length-drop taken bytes) in
    (fits, whole, λ none. let no : ⊥ = omega (arith, ap length none) in absurd no)
