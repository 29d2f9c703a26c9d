-- `item::sound_full` meets its contract: the tests stand in the order of the ranges. Assumes nothing.
use Rattle.item.specs.declared.Item.TheVariants.{Full as full}
use Rattle.item.proofs.Ranges.{joined_sound}
use Rattle.item.proofs.sound_full.Goals as goal

pub returns : goal.returns
returns c = joined_sound (full _)
