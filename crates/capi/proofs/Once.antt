-- Each contract of this crate admits one outcome only. Assumes nothing.
use mathlib.Core.Path.{sym, ◌∙◌}
use Rattle.laws.proofs.Once.{OneAnswer, OneExit}
use Rattle.capi.proofs.deskboard_new.Kinds as deskboard_new_kinds
use Rattle.capi.proofs.deskboard_new.Reads as deskboard_new_reads
use Rattle.capi.proofs.deskboard_write.Kinds as deskboard_write_kinds
use Rattle.capi.proofs.deskboard_write.Reads as deskboard_write_reads
use Rattle.capi.proofs.deskboard_read.Kinds as deskboard_read_kinds
use Rattle.capi.proofs.deskboard_read.Reads as deskboard_read_reads
use Rattle.capi.proofs.deskboard_reset.Kinds as deskboard_reset_kinds
use Rattle.capi.proofs.deskboard_reset.Reads as deskboard_reset_reads
use Rattle.capi.proofs.deskboard_tick.Kinds as deskboard_tick_kinds
use Rattle.capi.proofs.deskboard_tick.Reads as deskboard_tick_reads
use Rattle.capi.proofs.deskboard_run.Kinds as deskboard_run_kinds
use Rattle.capi.proofs.deskboard_run.Reads as deskboard_run_reads
use Rattle.capi.proofs.deskboard_start.Kinds as deskboard_start_kinds
use Rattle.capi.proofs.deskboard_start.Reads as deskboard_start_reads
use Rattle.capi.proofs.deskboard_next_line.Kinds as deskboard_next_line_kinds
use Rattle.capi.proofs.deskboard_next_line.Reads as deskboard_next_line_reads
use Rattle.capi.proofs.deskboard_draw.Kinds as deskboard_draw_kinds
use Rattle.capi.proofs.deskboard_draw.Reads as deskboard_draw_reads
use Rattle.capi.proofs.deskboard_compile.Kinds as deskboard_compile_kinds
use Rattle.capi.proofs.deskboard_compile.Reads as deskboard_compile_reads
use Rattle.capi.proofs.deskboard_install.Kinds as deskboard_install_kinds
use Rattle.capi.proofs.deskboard_install.Reads as deskboard_install_reads

deskboard_new_once : OneAnswer 1 deskboard_new_kinds.ps deskboard_new_kinds.r deskboard_new_reads.Post
deskboard_new_once κs a x y s t p q = p.0 ∙ sym q.0

deskboard_new_board_once : OneExit 1 deskboard_new_kinds.ps deskboard_new_kinds.r deskboard_new_reads.Post (λ κs s. s.0.now)
deskboard_new_board_once κs a x y s t p q = p.1 ∙ sym q.1

deskboard_write_once : OneAnswer 1 deskboard_write_kinds.ps deskboard_write_kinds.r deskboard_write_reads.Post
deskboard_write_once κs a x y s t p q = p.0 ∙ sym q.0

deskboard_write_board_once : OneExit 1 deskboard_write_kinds.ps deskboard_write_kinds.r deskboard_write_reads.Post (λ κs s. s.0.now)
deskboard_write_board_once κs a x y s t p q = p.1 ∙ sym q.1

deskboard_read_once : OneAnswer 2 deskboard_read_kinds.ps deskboard_read_kinds.r deskboard_read_reads.Post
deskboard_read_once κs a x y s t p q = p.0 ∙ sym q.0

deskboard_read_report_once : OneExit 2 deskboard_read_kinds.ps deskboard_read_kinds.r deskboard_read_reads.Post (λ κs s. s.1.1.0.now)
deskboard_read_report_once κs a x y s t p q = p.1 ∙ sym q.1

deskboard_reset_once : OneAnswer 1 deskboard_reset_kinds.ps deskboard_reset_kinds.r deskboard_reset_reads.Post
deskboard_reset_once κs a x y s t p q = p.0 ∙ sym q.0

deskboard_reset_board_once : OneExit 1 deskboard_reset_kinds.ps deskboard_reset_kinds.r deskboard_reset_reads.Post (λ κs s. s.0.now)
deskboard_reset_board_once κs a x y s t p q = p.1 ∙ sym q.1

deskboard_tick_once : OneAnswer 3 deskboard_tick_kinds.ps deskboard_tick_kinds.r deskboard_tick_reads.Post
deskboard_tick_once κs a x y s t p q = p.0 ∙ sym q.0

deskboard_tick_board_once : OneExit 3 deskboard_tick_kinds.ps deskboard_tick_kinds.r deskboard_tick_reads.Post (λ κs s. s.0.now)
deskboard_tick_board_once κs a x y s t p q = p.1.0 ∙ sym q.1.0

deskboard_tick_memory_once : OneExit 3 deskboard_tick_kinds.ps deskboard_tick_kinds.r deskboard_tick_reads.Post (λ κs s. s.1.0.now)
deskboard_tick_memory_once κs a x y s t p q = p.1.1.0 ∙ sym q.1.1.0

deskboard_tick_report_once : OneExit 3 deskboard_tick_kinds.ps deskboard_tick_kinds.r deskboard_tick_reads.Post (λ κs s. s.1.1.0.now)
deskboard_tick_report_once κs a x y s t p q = p.1.1.1 ∙ sym q.1.1.1

deskboard_run_once : OneAnswer 3 deskboard_run_kinds.ps deskboard_run_kinds.r deskboard_run_reads.Post
deskboard_run_once κs a x y s t p q = p.0 ∙ sym q.0

deskboard_run_board_once : OneExit 3 deskboard_run_kinds.ps deskboard_run_kinds.r deskboard_run_reads.Post (λ κs s. s.0.now)
deskboard_run_board_once κs a x y s t p q = p.1.0 ∙ sym q.1.0

deskboard_run_memory_once : OneExit 3 deskboard_run_kinds.ps deskboard_run_kinds.r deskboard_run_reads.Post (λ κs s. s.1.0.now)
deskboard_run_memory_once κs a x y s t p q = p.1.1.0 ∙ sym q.1.1.0

deskboard_run_report_once : OneExit 3 deskboard_run_kinds.ps deskboard_run_kinds.r deskboard_run_reads.Post (λ κs s. s.1.1.1.0.now)
deskboard_run_report_once κs a x y s t p q = p.1.1.1 ∙ sym q.1.1.1

deskboard_start_once : OneAnswer 2 deskboard_start_kinds.ps deskboard_start_kinds.r deskboard_start_reads.Post
deskboard_start_once κs a x y s t p q = p.0 ∙ sym q.0

deskboard_start_frame_once : OneExit 2 deskboard_start_kinds.ps deskboard_start_kinds.r deskboard_start_reads.Post (λ κs s. s.1.0.now)
deskboard_start_frame_once κs a x y s t p q = p.1 ∙ sym q.1

deskboard_next_line_once : OneAnswer 3 deskboard_next_line_kinds.ps deskboard_next_line_kinds.r deskboard_next_line_reads.Post
deskboard_next_line_once κs a x y s t p q = p.0 ∙ sym q.0

deskboard_next_line_frame_once : OneExit 3 deskboard_next_line_kinds.ps deskboard_next_line_kinds.r deskboard_next_line_reads.Post (λ κs s. s.0.now)
deskboard_next_line_frame_once κs a x y s t p q = p.1.0 ∙ sym q.1.0

deskboard_next_line_settings_once : OneExit 3 deskboard_next_line_kinds.ps deskboard_next_line_kinds.r deskboard_next_line_reads.Post (λ κs s. s.1.1.0.now)
deskboard_next_line_settings_once κs a x y s t p q = p.1.1 ∙ sym q.1.1

deskboard_draw_once : OneAnswer 5 deskboard_draw_kinds.ps deskboard_draw_kinds.r deskboard_draw_reads.Post
deskboard_draw_once κs a x y s t p q = p.0 ∙ sym q.0

deskboard_draw_line_once : OneExit 5 deskboard_draw_kinds.ps deskboard_draw_kinds.r deskboard_draw_reads.Post (λ κs s. s.1.1.1.0.now)
deskboard_draw_line_once κs a x y s t p q = p.1.0 ∙ sym q.1.0

deskboard_draw_report_once : OneExit 5 deskboard_draw_kinds.ps deskboard_draw_kinds.r deskboard_draw_reads.Post (λ κs s. s.1.1.1.1.0.now)
deskboard_draw_report_once κs a x y s t p q = p.1.1 ∙ sym q.1.1

deskboard_compile_once : OneAnswer 3 deskboard_compile_kinds.ps deskboard_compile_kinds.r deskboard_compile_reads.Post
deskboard_compile_once κs a x y s t p q = p.0 ∙ sym q.0

deskboard_compile_output_once : OneExit 3 deskboard_compile_kinds.ps deskboard_compile_kinds.r deskboard_compile_reads.Post (λ κs s. s.1.0.now)
deskboard_compile_output_once κs a x y s t p q = p.1.0 ∙ sym q.1.0

deskboard_compile_report_once : OneExit 3 deskboard_compile_kinds.ps deskboard_compile_kinds.r deskboard_compile_reads.Post (λ κs s. s.1.1.0.now)
deskboard_compile_report_once κs a x y s t p q = p.1.1 ∙ sym q.1.1

deskboard_install_once : OneAnswer 2 deskboard_install_kinds.ps deskboard_install_kinds.r deskboard_install_reads.Post
deskboard_install_once κs a x y s t p q = p.0 ∙ sym q.0

deskboard_install_memory_once : OneExit 2 deskboard_install_kinds.ps deskboard_install_kinds.r deskboard_install_reads.Post (λ κs s. s.0.now)
deskboard_install_memory_once κs a x y s t p q = p.1 ∙ sym q.1
