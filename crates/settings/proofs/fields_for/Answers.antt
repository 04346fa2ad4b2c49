use Rattle.settings.specs.Settings.{fields_for}
use Rattle.settings.proofs.fields_for.Goals as goal

pub returns : goal.returns
unfolding fields_for
returns c = rw c.program_of-program.ensures
