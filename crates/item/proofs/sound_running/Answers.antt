-- `item::sound_running` meets its contract: the tests stand in the order of the ranges. Assumes nothing.
use Rattle.item.specs.declared.Item.TheVariants.{Running as running}
use Rattle.item.proofs.Ranges.{joined_sound}
use Rattle.item.proofs.sound_running.Goals as goal

pub returns : goal.returns
returns c = joined_sound (running _)
