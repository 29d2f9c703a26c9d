-- Every starred case comes out as the paper says: the checker computes each from the definitions, and a wrong definition is named by the words of its case. Assumes nothing.
use mathlib.Core.Path.{◌≡◌, refl}
use mathlib.Core.List.{[]}
use lib.Count.{ones, ones_in}
use Rattle.step.specs.Step.{signed, step_x, step_y, wrap19, side_address}
use Rattle.mode.specs.Mode.{over_nibble, over, value_in, writes_in, cost_in, accesses_in, stroke_of, hits, code_by, code_byte, code_nibbles, code_in}
use Rattle.block.specs.Block.{no_side, pattern_of, source_address}
use Rattle.settings.specs.Settings.{advanced, advanced_overlay, advanced_map, off}
use Rattle.record.specs.Record.{controlled, repeat_group, address_group, scroll_group, font_group, map_group, field_group, look_group, restarted}
use Rattle.frame.specs.Frame.{fetched, shown, next_frame}
use Rattle.cases.specs.Table.{wrong, table, lines_from}

pub all_cases : wrong table ≡ []
unfolding signed step_x step_y wrap19 side_address over_nibble over value_in writes_in cost_in accesses_in stroke_of hits code_by code_byte code_nibbles code_in
    no_side pattern_of source_address advanced advanced_overlay advanced_map off controlled repeat_group address_group scroll_group font_group map_group field_group look_group restarted fetched shown next_frame lines_from ones ones_in
all_cases = refl
