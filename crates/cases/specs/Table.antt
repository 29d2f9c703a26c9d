-- Document 01, "At the edges": the cases marked *, each with the paper's words, what the definitions give, and what the paper says.
use Rattle.std.specs.Prelude.{Bool, true, false, cond, ◌&&◌, List, [], ◌∷◌, ◌++◌, ℕ, zero, suc, ◌+◌, eqb, ℤ, pos, negsuc, replicate}
use Prim.Native.String.{String}
use Rattle.refusal.specs.Sheet.{Told, done, refused}
use Rattle.step.specs.Step.{step_y}
use Rattle.mode.specs.Mode.{code_in, stroke_of}
use Rattle.mode.specs.declared.Stroke.{Stroke}
use Rattle.block.specs.Block.{no_side, source_address}
use Rattle.block.specs.declared.Block.{Block}
use Rattle.settings.specs.declared.Settings.{Settings}
use Rattle.frame.specs.Frame.{start_of, line_answer, line_frame}
use Rattle.frame.specs.declared.Frame.{Frame}

pub record Case : Type 0 where
  pub says : String
  pub gives : List ℕ
  pub paper : List ℕ

-- a signed number as two: 0 and n, or 1 and n for -n
abbrev pub signed_as : ℤ → List ℕ
signed_as (pos n) = 0 ∷ n ∷ []
signed_as (negsuc n) = 1 ∷ (n + 1) ∷ []

-- the code after a byte in mode 1 with s = 1; 7 stands for a code from before, so "none" is 7
abbrev pub code_for : ℕ → ℕ → ℕ
code_for mask d = code_in 1 mask 1 d 7

-- what one byte writes: 1 and its value where it writes, 0 where it does not
abbrev pub writes_as : Stroke → List ℕ
writes_as k = cond k.written (1 ∷ k.value ∷ []) (0 ∷ [])

-- a block with W = 10 and Q = 4 whose source begins at 0 and steps by 1: its source addresses are its source columns
abbrev pub patterned : Block
patterned =
    record {
      source = record { adr0 = 0; adr1 = 0; adr2 = 0; y0 = 0; y1 = 0; x = 1 };
      dest = no_side;
      width0 = 9;
      width1 = 0;
      height = 0;
      andmask = 255;
      xormask = 0;
      hitmask = 0;
      zoom = 0;
      pattern = 0x83;
      control = 0;
    }

abbrev pub source_columns : ℕ → ℕ → List ℕ
source_columns zero from = []
source_columns (suc n) from = source_address patterned 0 from ∷ source_columns n (from + 1)

-- a memory of 16,384 bytes that begins with an XDL, and the mode and overlay address of the first lines it shows; mode 0 is off, 2 SR.
-- "Control 03 00" comes behind a record that switches SR on, so that a rule which keeps the mode would show
abbrev pub line_as : Told Settings → List ℕ → List ℕ
line_as (done s) more = s.overlay.mode ∷ s.overlay.address ∷ more
line_as (refused number item) more = number ∷ []

unfoldable pub lines_from : ℕ → List ℕ → Frame → List ℕ
lines_from zero mem f = []
lines_from (suc n) mem f = line_as (line_answer f mem) (lines_from n mem (line_frame f mem))

abbrev pub lines_told : ℕ → List ℕ → ℕ → List ℕ
lines_told n xdl zeros = lines_from n (xdl ++ replicate zeros 0) (start_of 0 1)

abbrev pub table : List Case
table =
    record { says = "step y bytes FF 1F: -1"; gives = signed_as (step_y 0xFF 0x1F); paper = 1 ∷ 1 ∷ [] }
    ∷ record { says = "step y bytes 00 10: -4096"; gives = signed_as (step_y 0x00 0x10); paper = 1 ∷ 4096 ∷ [] }
    ∷ record { says = "step y bytes FF 0F: 4095"; gives = signed_as (step_y 0xFF 0x0F); paper = 0 ∷ 4095 ∷ [] }
    ∷ record { says = "mode 1, s=1, mask 02: d=31 none, 32 gives code 32"; gives = code_for 0x02 31 ∷ code_for 0x02 32 ∷ []; paper = 7 ∷ 32 ∷ [] }
    ∷ record { says = "the same with mask 01, d=0: none; d=1 gives 1"; gives = code_for 0x01 0 ∷ code_for 0x01 1 ∷ []; paper = 7 ∷ 1 ∷ [] }
    ∷ record { says = "mode 2, d=200, s=100: 44"; gives = writes_as (stroke_of 2 0 100 200 0); paper = 1 ∷ 44 ∷ [] }
    ∷ record { says = "mode 6, s=50h, d=9Ah, mask 10h, code 0: writes 5Ah, code 90h"; gives = writes_as (stroke_of 6 0x10 0x50 0x9A 0) ++ (code_in 6 0x10 0x50 0x9A 0 ∷ []); paper = 1 ∷ 0x5A ∷ 0x90 ∷ [] }
    ∷ record { says = "W=10, Q=4: source columns 0 1 2 3 0 1 2 3 0 1"; gives = source_columns 10 0; paper = 0 ∷ 1 ∷ 2 ∷ 3 ∷ 0 ∷ 1 ∷ 2 ∷ 3 ∷ 0 ∷ 1 ∷ [] }
    ∷ record { says = "XDL 62 80 02 00 10 00 40 01: SR at 1000h, 1140h, 1280h, then off, address 13C0h"; gives = lines_told 4 (0x62 ∷ 0x80 ∷ 0x02 ∷ 0x00 ∷ 0x10 ∷ 0x00 ∷ 0x40 ∷ 0x01 ∷ []) 16376; paper = 2 ∷ 0x1000 ∷ 2 ∷ 0x1140 ∷ 2 ∷ 0x1280 ∷ 0 ∷ 0x13C0 ∷ [] }
    ∷ record { says = "SR, OVADR 7FFFFh, step 1: next line 0"; gives = lines_told 2 (0x62 ∷ 0x00 ∷ 0x01 ∷ 0xFF ∷ 0xFF ∷ 0x07 ∷ 0x01 ∷ 0x00 ∷ []) 16376; paper = 2 ∷ 0x7FFFF ∷ 2 ∷ 0 ∷ [] }
    ∷ record { says = "control 03 00: off"; gives = lines_told 2 (0x02 ∷ 0x00 ∷ 0x03 ∷ 0x00 ∷ []) 16380; paper = 2 ∷ 0 ∷ 0 ∷ 0 ∷ [] }
    ∷ []

-- the words of the cases that come out otherwise than the paper says
abbrev pub same : List ℕ → List ℕ → Bool
same [] [] = true
same (x ∷ xs) (y ∷ ys) = eqb x y && same xs ys
same [] (y ∷ ys) = false
same (x ∷ xs) [] = false

abbrev pub wrong : List Case → List String
wrong [] = []
wrong (c ∷ more) = cond (same c.gives c.paper) (wrong more) (c.says ∷ wrong more)
