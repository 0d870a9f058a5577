-- What a schema holds in a vector, as the definitions see it.
use Rattle.std.proofs.Common.{◌≡◌, List, refl, sym, ap, ◌∙◌}
use Rattle.std.specs.declared.vec.Vec.{Vec}
use Rattle.std.specs.Global.{Global}
use Rattle.lfg_terms.specs.declared.grammar.Schema as declared
use Rattle.lfg_terms.specs.declared.grammar.Schema.{Either, Maybe, Row_of-Schema, end_of-Schema, more_of-Schema, items-the_row-Schema, items_hidden-the_row-Schema-0, Row_of-Schema-Either-0-1, end_of-Schema-Either-0-1, more_of-Schema-Either-0-1, items-the_row-Schema-Either-0-1, items_hidden-the_row-Schema-Either-0-1-1}
use Rattle.lfg_terms.specs.declared.grammar.Schema.TheBlock.{hidden-the_row-Schema-0, hidden-the_row-Schema-Either-0-1-1, items_shown-the_row-Schema-0}
use Rattle.lfg_model.specs.Terms.{Paths, schema_of, row_annotation, branches_of, branches_from, annotation_of, and_schema, or_branch, maybe, either}

row_view : {n : _} (row : Row_of-Schema Paths n) → row_annotation row ≡ annotation_of (items-the_row-Schema Paths n row)
row_view end_of-Schema = refl
row_view (more_of-Schema schema rest) = ap (and_schema (schema_of schema)) (row_view rest)

pub maybe_view : (v : Vec (declared.Schema Paths) Global) → schema_of (Maybe v) ≡ maybe (annotation_of v.items)
maybe_view v = ap maybe (row_view (hidden-the_row-Schema-0 Paths v) ∙ ap annotation_of (items_hidden-the_row-Schema-0 Paths v))

rows_view : {n : _} (rows : Row_of-Schema-Either-0-1 Paths n) → branches_of rows ≡ branches_from (items-the_row-Schema-Either-0-1 Paths n rows)
rows_view end_of-Schema-Either-0-1 = refl
rows_view (more_of-Schema-Either-0-1 shape row rest) =
    λ i. or_branch ((row_view row ∙ ap annotation_of (sym (items_shown-the_row-Schema-0 Paths shape row))) i) (rows_view rest i)

pub either_view : (v : Vec (Vec (declared.Schema Paths) Global) Global) → schema_of (Either v) ≡ either (branches_from v.items)
either_view v = ap either (rows_view (hidden-the_row-Schema-Either-0-1-1 Paths v) ∙ ap branches_from (items_hidden-the_row-Schema-Either-0-1-1 Paths v))

-- a schema that is such a one
pub either_schema : (s : declared.Schema Paths) (v : Vec (Vec (declared.Schema Paths) Global) Global) (branches : List (Vec (declared.Schema Paths) Global)) → s ≡ Either v → branches ≡ v.items → schema_of s ≡ either (branches_from branches)
either_schema s v branches e f = ap schema_of e ∙ either_view v ∙ ap (λ xs. either (branches_from xs)) (sym f)

pub maybe_schema : (s : declared.Schema Paths) (v : Vec (declared.Schema Paths) Global) (inside : List (declared.Schema Paths)) → s ≡ Maybe v → inside ≡ v.items → schema_of s ≡ maybe (annotation_of inside)
maybe_schema s v inside e f = ap schema_of e ∙ maybe_view v ∙ ap (λ xs. maybe (annotation_of xs)) (sym f)
