-- A sink in memory, and what its calls do.
use Rattle.std.specs.Prelude.{◌==◌, ℕ, List, [], ◌∷◌, length, min, unwrap_or, Option}
use Rattle.std.specs.List.{find}
use Rattle.std.specs.Option.{option_map}
use Rattle.lfg_io.specs.Counts.{raised}

-- what is written, which calls fail and after how many bytes, how many calls were made,
-- how many failed, and how much of the reserved room is left
pub record MemSinkState : Type 0 where
  pub written : List ℕ
  pub fails : List (ℕ × ℕ)
  pub calls : ℕ
  pub faults : ℕ
  pub left : ℕ

-- what is left of the room, where no call is listed to fail
abbrev pub sure_room : List (ℕ × ℕ) → ℕ → ℕ
sure_room [] left = left
sure_room (entry ∷ entries) left = 0

-- the number of bytes stated for the next call, where it is listed; the first entry counts
abbrev pub stated : MemSinkState → Option ℕ
stated sink = option_map (λ entry. entry.1) (find (λ entry. entry.0 == raised sink.calls) sink.fails)

-- how many bytes of the piece the next call appends: the least of the stated number, the piece's length and the room left
abbrev pub taken : MemSinkState → List ℕ → ℕ
taken sink bytes = min (unwrap_or (stated sink) (length bytes)) (min (length bytes) sink.left)
