-- include/deskboard.h: a line's settings and a frame as words, and back.
use Rattle.std.specs.Prelude.{Bool, List, [], ◌∷◌, ◌++◌, ℕ}
use Rattle.settings.specs.declared.Overlay.{Overlay}
use Rattle.settings.specs.declared.Map.{Map}
use Rattle.settings.specs.declared.Look.{Look}
use Rattle.settings.specs.declared.Settings.{Settings}
use Rattle.frame.specs.declared.Frame.{Frame}
use Rattle.words.specs.Words.{word_at, byte_in, half_in, switch_in, switch_word, a_byte, a_half, a_word, within}

-- "The settings of a line are 20 words", "A frame is 25 words"
abbrev pub settings_size : ℕ
settings_size = 20

abbrev pub frame_size : ℕ
frame_size = 25

-- words 0 to 6: mode, overlay address, overlay step, hscroll, vscroll, font, text counter
unfoldable pub overlay_of : List ℕ → Overlay
overlay_of words =
    record {
      mode = byte_in words 0;
      address = word_at words 1;
      step = half_in words 2;
      hscroll = byte_in words 3;
      vscroll = byte_in words 4;
      font = byte_in words 5;
      counter = byte_in words 6;
    }

-- words 7 to 14: map on, map address, map step, map hscroll, map vscroll, field width, field height, field counter
unfoldable pub map_of : List ℕ → Map
map_of words =
    record {
      on = switch_in words 7;
      address = word_at words 8;
      step = half_in words 9;
      hscroll = byte_in words 10;
      vscroll = byte_in words 11;
      width = byte_in words 12;
      height = byte_in words 13;
      counter = byte_in words 14;
    }

-- words 15 to 18: width, overlay palette, playfield palette, priority
unfoldable pub look_of : List ℕ → Look
look_of words =
    record { width = byte_in words 15; palette = byte_in words 16; playfield = byte_in words 17; priority = byte_in words 18 }

-- word 19: the record
unfoldable pub settings_of : List ℕ → Settings
settings_of words =
    record { overlay = overlay_of words; map = map_of words; look = look_of words; origin = word_at words 19 }

-- words 0 to 19: its settings; 20 to 24: list position, repeat, line, ended, on. All but line and on are the reader's
unfoldable pub frame_of : List ℕ → Frame
frame_of words =
    record {
      reader = record {
        settings = settings_of words;
        position = word_at words 20;
        repeat = byte_in words 21;
        ended = switch_in words 23;
      };
      line = half_in words 22;
      on = switch_in words 24;
    }

-- the other way round, in the same order
abbrev pub overlay_words : Overlay → List ℕ
overlay_words o = o.mode ∷ o.address ∷ o.step ∷ o.hscroll ∷ o.vscroll ∷ o.font ∷ o.counter ∷ []

abbrev pub map_words : Map → List ℕ
map_words p =
    switch_word p.on ∷ p.address ∷ p.step ∷ p.hscroll ∷ p.vscroll ∷ p.width ∷ p.height ∷ p.counter ∷ []

abbrev pub look_words : Look → List ℕ
look_words l = l.width ∷ l.palette ∷ l.playfield ∷ l.priority ∷ []

unfoldable pub settings_words : Settings → List ℕ
settings_words s = overlay_words s.overlay ++ map_words s.map ++ look_words s.look ++ (s.origin ∷ [])

abbrev pub place_words : Frame → List ℕ
place_words f =
    let r = f.reader in
    r.position ∷ r.repeat ∷ f.line ∷ switch_word r.ended ∷ switch_word f.on ∷ []

unfoldable pub frame_words : Frame → List ℕ
frame_words f = settings_words f.reader.settings ++ place_words f

-- the largest word of each field
unfoldable pub settings_most : List ℕ
settings_most =
    (a_byte ∷ a_word ∷ a_half ∷ a_byte ∷ a_byte ∷ a_byte ∷ a_byte ∷ [])
    ++ (1 ∷ a_word ∷ a_half ∷ a_byte ∷ a_byte ∷ a_byte ∷ a_byte ∷ a_byte ∷ [])
    ++ (a_byte ∷ a_byte ∷ a_byte ∷ a_byte ∷ [])
    ++ (a_word ∷ [])

abbrev pub settings_fits : List ℕ → Bool
settings_fits words = within settings_most words 0

unfoldable pub frame_most : List ℕ
frame_most = settings_most ++ (a_word ∷ a_byte ∷ a_half ∷ 1 ∷ 1 ∷ [])

abbrev pub frame_fits : List ℕ → Bool
frame_fits words = within frame_most words 0
