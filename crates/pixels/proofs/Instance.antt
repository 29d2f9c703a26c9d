-- The claims at one line: text, narrow, scrolled by 3, at 0, on a new board and a memory of 16,384 zeros; and on one that has another byte behind all that it reads. Assumes nothing.
use mathlib.Core.Path.{◌≡◌, refl, sym, ap, ◌∙◌}
use mathlib.Core.Bool.{false}
use mathlib.Core.List.{List}
use Prim.Native.Nat.{ℕ, ◌<◌}
use native.Mathlib.Omega.{arith}
use lib.ListN.{length, set, get_or, length-set, length-replicate, get_or-replicate}
use lib.Seq.{get_or-set_other}
use Rattle.refusal.specs.Sheet.{done}
use Rattle.vram.specs.Memory.{good_length, cell_at}
use Rattle.vram.proofs.Length.{own_place}
use Rattle.vram.proofs.Blank.{blank, blank_good}
use Rattle.block.specs.Block.{no_side, none_side, no_block, is_none}
use Rattle.blitter.specs.State.{sound_blitter}
use Rattle.board.specs.Board.{new_board, sound_board}
use Rattle.settings.specs.declared.Settings.{Settings}
use Rattle.pixels.specs.Pixels.{pixel_count, data_address, font_address}
use Rattle.pixels.specs.Draw.{draw_answer, draw_output}
use Rattle.pixels.specs.Reads.{data_bytes, read_bytes, FromByte, SameFor}
use Rattle.pixels.proofs.Bytes.{no_byte_more, each_byte, drawn_alike}

abbrev line : Settings
line =
    record {
      overlay = record { mode = 1; address = 0; step = 0; hscroll = 3; vscroll = 0; font = 0; counter = 0 };
      map = record { on = false; address = 0; step = 0; hscroll = 0; vscroll = 0; width = 8; height = 8; counter = 0 };
      look = record { width = 0; palette = 1; playfield = 0; priority = 255 };
      origin = 524288;
    }

-- it is drawn: 512 pixels
drawn : draw_answer new_board line blank 512 ≡ done 512
unfolding draw_answer pixel_count sound_board sound_blitter is_none none_side no_block no_side
drawn = simp blank_good

-- from 130 bytes of its data, which are 64 characters and one more; the last of them by its last pixel
reads : read_bytes line ≡ 130
unfolding data_bytes
reads = refl

last_read : 129 < read_bytes line
last_read = no_byte_more new_board line blank 512 512 511 129 drawn (omega arith) (1, omega arith, refl)

last_shown : (i : ℕ) × (i < 512) × FromByte line.overlay i 129
unfolding data_bytes
last_shown = each_byte new_board line blank 512 512 129 drawn (omega arith)

-- byte 5,000 is none of them: with another value there the line is the same
abbrev other : List ℕ
other = set blank 5000 7

-- what stands at an address inside a memory
inside : (mem : List ℕ) (a : ℕ) → length mem ≡ 16384 → a < 16384 → cell_at mem a ≡ get_or mem a 0
inside mem a e h = ap (λ (p : ℕ). get_or mem p 0) (own_place (length mem) a (omega arith) (omega arith))

-- a byte that is not written to stays
stays : (mem : List ℕ) (n v a : ℕ) → length mem ≡ 16384 → a < n → n < 16384 → cell_at mem a ≡ cell_at (set mem n v) a
stays mem n v a e h k =
    inside mem a e (omega arith)
    ∙ (sym (get_or-set_other mem n a v 0 (λ q. omega arith))
    ∙ sym (inside (set mem n v) a (length-set mem n v ∙ e) (omega arith)))

long : length blank ≡ 16384
long = length-replicate {A = ℕ} 16384 0

low_same : (a : ℕ) → a < 5000 → cell_at blank a ≡ cell_at other a
low_same a h = stays blank 5000 7 a long h (omega arith)

zero_there : (a : ℕ) → a < 5000 → cell_at blank a ≡ 0
zero_there a h = inside blank a long (omega arith) ∙ get_or-replicate {A = ℕ} 16384 a 0 0 (omega arith)

same : SameFor line blank other
unfolding pixel_count
same i h =
    let o = line.overlay in
    let near : (b : ℕ) → b < 2 → data_address o i b < 5000 = λ b q. omega arith in
    let char = zero_there (data_address o i 0) (near 0 (omega arith)) in
    let shape : font_address o (cell_at blank (data_address o i 0)) < 5000 = omega arith in
    (low_same (data_address o i 0) (near 0 (omega arith)), (low_same (data_address o i 1) (near 1 (omega arith)), (low_same (font_address o (cell_at blank (data_address o i 0))) shape, tt)))

alike : (lent : List ℕ) → draw_output new_board line blank lent ≡ draw_output new_board line other lent
alike lent = (drawn_alike new_board line blank other lent (ap good_length (sym (length-set blank 5000 7))) same).pixels
