use Rattle.std.specs.String.{string_bytes}
use Rattle.std.proofs.Common.{◌∙◌, sym}
use Rattle.lfg_lexer.proofs.NameTexts.{ended, stepped, leapt}
use Rattle.lfg_model.proofs.PieceEnds.{char_shorter, joined_shorter}
use Rattle.lfg_lexer.proofs.names.name_on.Goals as goal

pub returns-in_default-joined_at : goal.returns-in_default-joined_at
returns-in_default-joined_at c = sym c.loop-c.invariant ∙ ended (string_bytes c.loop-c.text) c.loop-c.rest.now c.in_default.ensures c.in_default-joined_at.ensures

pub loop-c-preserved-in_default : goal.loop-c-preserved-in_default
loop-c-preserved-in_default c = leapt (string_bytes c.loop-c.text) (string_bytes c.push.new.self) (string_bytes c.push-in_default.new.self) c.loop-c.rest.now c.in-Some-joined_at.behind.now c.in-Some-joined_at.c c.in_default.ensures c.in-Some-joined_at.ensures c.in_ok-push.ensures.bytes c.in_ok-push-2.ensures.bytes ∙ c.loop-c.invariant

pub loop-c-smaller-in_default : goal.loop-c-smaller-in_default
loop-c-smaller-in_default c = joined_shorter c.loop-c.rest.now c.in-Some-joined_at.behind.now c.in-Some-joined_at.c c.in-Some-joined_at.ensures

pub loop-c-smaller : goal.loop-c-smaller
loop-c-smaller c = char_shorter c.loop-c.rest.now c.in-Some.behind.now c.in-Some.c c.in-Some.ensures

pub loop-c-preserved : goal.loop-c-preserved
loop-c-preserved c = stepped (string_bytes c.loop-c.text) (string_bytes c.push-in-loop-c.new.self) c.loop-c.rest.now c.in-Some.behind.now c.in-Some.c c.in-Some.ensures c.in_ok-push-3.ensures.bytes ∙ c.loop-c.invariant
