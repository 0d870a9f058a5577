-- Sums that stop one past the greatest number of schemata.
use Rattle.std.proofs.Common.{◌≡◌, ℕ, suc, ◌<◌, ◌≤◌, ◌+◌, min, arith}
use Rattle.lfg_model.specs.TemplateRules.{schema_limit}
use Rattle.lfg_templates.specs.Counts.{capped}

pub capped_add : (m n : ℕ) → min (capped m + capped n) (suc schema_limit) ≡ capped (m + n)
capped_add m n = omega arith

pub capped_within : (n : ℕ) → capped n ≤ 400001
capped_within n = omega arith

-- what is past the limit stays past it
pub capped_more : (m n : ℕ) → schema_limit < capped m → capped m ≡ capped (m + n)
capped_more m n l = omega arith
