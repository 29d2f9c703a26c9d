-- Document 01, "Registers": what can be written to, beside the blitter.
use Rattle.std.specs.Prelude.{Bool, cond, ◌&&◌, ℕ, ◌-◌, ◌/◌, ◌%◌, eqb, leb, ltb}
use Rattle.vram.specs.Memory.{number19}
use Rattle.board.specs.declared.Ports.{Ports}

-- "A new board has every register .. 0"
abbrev pub new_ports : Ports
new_ports = record { video = 0; xdladr = 0; bladr = 0; p0 = 0; p1 = 0; p2 = 0; p3 = 0 }

-- "each field within its width": VIDEO_CONTROL has 4 bits, an address 19
abbrev pub sound_ports : Ports → Bool
sound_ports p = ltb p.video 16 && ltb p.xdladr 524288 && ltb p.bladr 524288

-- other values in VIDEO_CONTROL, XDL_ADR and BL_ADR, or in one of them: the rest stays
abbrev pub ports_with : ℕ → ℕ → ℕ → Ports → Ports
ports_with video xdladr bladr p =
    record { video = video; xdladr = xdladr; bladr = bladr; p0 = p.p0; p1 = p.p1; p2 = p.p2; p3 = p.p3 }

abbrev pub video_set : ℕ → Ports → Ports
video_set v p = ports_with v p.xdladr p.bladr p

abbrev pub xdladr_set : ℕ → Ports → Ports
xdladr_set a p = ports_with p.video a p.bladr p

abbrev pub bladr_set : ℕ → Ports → Ports
bladr_set a p = ports_with p.video p.xdladr a p

-- an address with its byte k written, of 0, 1 and 2
abbrev pub byte_set : ℕ → ℕ → ℕ → ℕ
byte_set a k v =
    cond (eqb k 0) (number19 v (a / 256 % 256) (a / 65536 % 8))
    (cond (eqb k 1) (number19 (a % 256) v (a / 65536 % 8))
    (number19 (a % 256) (a / 256 % 256) v))

-- an offset of a row of them
abbrev pub among : ℕ → ℕ → ℕ → Bool
among first last offset = leb first offset && leb offset last

-- "Writes: 0x40 VIDEO_CONTROL (4 bits), 0x41..43 XDL_ADR, 0x50..52 BL_ADR, .. 0x55..58 P0..P3. Others do nothing."
unfoldable pub ports_written : ℕ → ℕ → Ports → Ports
ports_written offset v p =
    record {
      video = cond (eqb offset 0x40) (v % 16) p.video;
      xdladr = cond (among 0x41 0x43 offset) (byte_set p.xdladr (offset - 0x41) v) p.xdladr;
      bladr = cond (among 0x50 0x52 offset) (byte_set p.bladr (offset - 0x50) v) p.bladr;
      p0 = cond (eqb offset 0x55) v p.p0;
      p1 = cond (eqb offset 0x56) v p.p1;
      p2 = cond (eqb offset 0x57) v p.p2;
      p3 = cond (eqb offset 0x58) v p.p3;
    }
