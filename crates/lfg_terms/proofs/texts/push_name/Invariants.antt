use Rattle.std.proofs.Common.{◌≡◌, ◌++◌, drop}
use Rattle.lfg_terms.specs.Texts.{name_text, text_after, Keeps}
use Rattle.lfg_terms.proofs.texts.push_name.Given as goal

-- what is written and the text of the bytes that are left make up the whole
abbrev pub invariant-loop-i : goal.invariant-loop-i
invariant-loop-i l = record {
  written : l.text.items ++ text_after l.before (drop l.i l.bytes) ≡ l.initial.text.items ++ name_text l.bytes;
  kept : Keeps l.initial.text.items l.text.items;
}
