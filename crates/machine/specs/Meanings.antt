-- What a layer means, over what the machine below means.
use Rattle.std.specs.Prelude.{List, vec_items}
use Rattle.command.specs.declared.Identity.{Identity}
use Rattle.machine.specs.declared.once.Once.{Once}

-- the state below, and the identities kept, in the order in which they came
abbrev pub once_means : {M S : Type 0} → (M → S) → Once M → S × List Identity
once_means means o = (means o.below, vec_items o.kept)
