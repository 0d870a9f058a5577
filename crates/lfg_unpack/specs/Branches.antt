-- What a tree fact says, as the definition of trees' texts reads it.
use Rattle.lfg_model.specs.PairTexts as model
use Rattle.lfg_unpack.specs.declared.texts.Branch.{Branch}
use Rattle.lfg_unpack.specs.declared.texts.Branch.TheVariants.{Daughter, Word, Neither}

abbrev pub branch_view : Branch → model.Branch
branch_view (Daughter daughter mother) = model.to_daughter daughter.now mother.now
branch_view (Word text mother) = model.to_word text.now mother.now
branch_view Neither = model.no_branch
