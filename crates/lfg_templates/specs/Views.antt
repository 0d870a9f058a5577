-- What the program holds, as the definitions see it.
use Rattle.lfg_model.specs.Templates.{Binding}
use Rattle.lfg_model.specs.TemplateRules as rules
use Rattle.lfg_templates.specs.declared.bound.Bound.{Bound}
use Rattle.lfg_templates.specs.declared.calls.Called.{Called}
use Rattle.lfg_templates.specs.declared.heads.Head.{Head}
use Rattle.lfg_templates.specs.declared.spots.Spot as held
use Rattle.lfg_templates.specs.declared.totals.Weight.{Weight}
use Rattle.lfg_templates.specs.Spots.{Spot}

-- parameters and the arguments bound to them
abbrev pub binding_of : Bound → Binding
binding_of b = record { params = b.params.now; args = b.args.now }

-- an entry and a name
abbrev pub spot_of : held.Spot → Spot
spot_of s = record { entry = s.entry; name = s.name.now }

-- what heads an entry
abbrev pub head_of : Head → rules.Head
head_of h = record { entry = h.entry; name = h.name.now; params = h.params.now }

-- a call with its entry
abbrev pub called_of : Called → rules.CallAt
called_of c = record { entry = c.entry; call = record { name = c.name.now; args = c.args.now } }

-- the number of schemata of an entry
abbrev pub weight_of : Weight → rules.Weight
weight_of w = record { entry = w.entry; size = w.size }
