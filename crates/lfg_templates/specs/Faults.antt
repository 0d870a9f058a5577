-- What a fault says of the draft.
use Rattle.std.specs.Prelude.{◌≡◌, ◌⊎◌}
use Rattle.lfg_model.specs.DraftForms.{DraftForm}
use Rattle.lfg_model.specs.TemplateRules.{NoneRepeated, NoneUndefined, NoneOtherArity, NoneCyclic, FirstRepeated, FirstUndefined, FirstOtherArity, FirstCyclic, FirstTooMuch}
use Rattle.lfg_templates.specs.declared.fault.TemplateFault.{TemplateFault}
use Rattle.lfg_templates.specs.declared.fault.TemplateFault.TheVariants.{Repeated, Undefined, Arity, TemplateCycle, TooMuch, Memory}

-- the fault is the first of a rule that is broken, where all rules before it are kept
abbrev pub Breaks : DraftForm → TemplateFault → Type 0
Breaks d (Repeated name) = FirstRepeated d name
Breaks d (Undefined name) = FirstUndefined d name
Breaks d (Arity name) = FirstOtherArity d name
Breaks d (TemplateCycle name) = FirstCyclic d name
Breaks d (TooMuch entry) = FirstTooMuch d entry
Breaks d Memory = ⊥

-- there was not enough memory, which says nothing of the draft, or the draft breaks this rule
abbrev pub Refuses : DraftForm → TemplateFault → Type 0
Refuses d fault = (fault ≡ Memory) ⊎ Breaks d fault

-- each rule is kept but that on the number of schemata
pub record Fits (d : DraftForm) : Type 0 where
  pub once : NoneRepeated d
  pub defined : NoneUndefined d
  pub fitting : NoneOtherArity d
  pub acyclic : NoneCyclic d
