-- Document 02, A5: the shared rule for pixels per byte; which bytes of memory a line is drawn from, and that no others matter.
use Rattle.std.specs.Prelude.{◌≡◌, cond, ◌&&◌, List, [], ◌∷◌, ℕ, ◌+◌, ◌*◌, ◌<◌, eqb, ltb, length, get_or}
use Rattle.refusal.specs.Sheet.{done}
use Rattle.vram.specs.Memory.{good_length, cell_at}
use Rattle.board.specs.declared.Board.{Board}
use Rattle.settings.specs.declared.Overlay.{Overlay}
use Rattle.settings.specs.declared.Settings.{Settings}
use Rattle.pixels.specs.Pixels.{pixel_count, line_count, cell_bytes, cell_pixels, offset_of, data_address, font_address}
use Rattle.pixels.specs.Draw.{draw_answer, draw_output}

-- the bytes of a line's data: SR "256/320/336 pixels", a byte each; HR half of "512/640/672 pixels"; LR "128/160/168 pixels"; text "2x line width in characters",
-- which are "64/80/84"
abbrev pub data_table : List (List ℕ)
data_table =
    (0 ∷ 0 ∷ 0 ∷ [])
    ∷ (128 ∷ 160 ∷ 168 ∷ [])
    ∷ (256 ∷ 320 ∷ 336 ∷ [])
    ∷ (256 ∷ 320 ∷ 336 ∷ [])
    ∷ (128 ∷ 160 ∷ 168 ∷ [])
    ∷ []

unfoldable pub data_bytes : ℕ → ℕ → ℕ
data_bytes mode width = get_or (get_or data_table mode []) width 0

-- "the shared rule for pixels per byte once over all modes and widths": a line's bytes and its pixels are as many cells
abbrev pub PixelsPerByte : Type 0
PixelsPerByte = (mode width : ℕ) → pixel_count mode width * cell_bytes mode ≡ data_bytes mode width * cell_pixels mode

-- "Text reads one more character when hscroll is not 0": the bytes of its data that a line is drawn from
abbrev pub read_bytes : Settings → ℕ
read_bytes s =
    let o = s.overlay in
    data_bytes o.mode s.look.width + cond (eqb o.mode 1 && ltb 0 o.hscroll) (cell_bytes 1) 0

-- byte k of the data is one of those that pixel i is drawn from
abbrev pub FromByte : Overlay → ℕ → ℕ → Type 0
FromByte o i k = (b : ℕ) × (b < cell_bytes o.mode) × (offset_of o i b ≡ k)

-- a line that is drawn reads no byte past these, and each of them
abbrev pub NoByteMore : Type 0
NoByteMore =
    (b : Board) (s : Settings) (mem : List ℕ) (room n i k : ℕ) → draw_answer b s mem room ≡ done n → i < n
    → FromByte s.overlay i k
    → k < read_bytes s

abbrev pub EachByte : Type 0
EachByte =
    (b : Board) (s : Settings) (mem : List ℕ) (room n k : ℕ) → draw_answer b s mem room ≡ done n → k < read_bytes s
    → (i : ℕ) × (i < n) × FromByte s.overlay i k

-- the addresses that pixel i is drawn from: in text its character, its attribute and the character's font line; else its byte
abbrev pub read_for_text : List ℕ → Overlay → ℕ → List ℕ
read_for_text mem o i =
    let char = data_address o i 0 in
    char ∷ data_address o i 1 ∷ font_address o (cell_at mem char) ∷ []

abbrev pub read_for : List ℕ → Overlay → ℕ → List ℕ
read_for mem o i = cond (eqb o.mode 1) (read_for_text mem o i) (data_address o i 0 ∷ [])

-- two memories have the same bytes there
abbrev pub SameAt : List ℕ → List ℕ → List ℕ → Type 0
SameAt mem mem' [] = Unit
SameAt mem mem' (a ∷ more) = (cell_at mem a ≡ cell_at mem' a) × SameAt mem mem' more

abbrev pub SameFor : Settings → List ℕ → List ℕ → Type 0
SameFor s mem mem' = (i : ℕ) → i < line_count s → SameAt mem mem' (read_for mem s.overlay i)

-- two memories, both of a good length or neither, that agree on the bytes that a line is drawn from draw the same line
pub record SameDrawn (b : Board) (s : Settings) (mem mem' line : List ℕ) : Type 0 where
  pub answer : draw_answer b s mem (length line) ≡ draw_answer b s mem' (length line)
  pub pixels : draw_output b s mem line ≡ draw_output b s mem' line

abbrev pub DrawnAlike : Type 0
DrawnAlike =
    (b : Board) (s : Settings) (mem mem' line : List ℕ) → good_length (length mem) ≡ good_length (length mem') → SameFor s mem mem'
    → SameDrawn b s mem mem' line
