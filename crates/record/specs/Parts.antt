-- The same reader further on in the list, with other settings.
use Rattle.std.specs.Prelude.{Bool, false, ℕ, ◌+◌, ◌%◌}
use Rattle.settings.specs.Parts.{with_overlay, with_map, with_look}
use Rattle.settings.specs.Settings.{beginning}
use Rattle.settings.specs.declared.Settings.{Settings}
use Rattle.settings.specs.declared.Overlay.{Overlay}
use Rattle.settings.specs.declared.Map.{Map}
use Rattle.settings.specs.declared.Look.{Look}
use Rattle.record.specs.declared.Reader.{Reader}

-- a reader as a frame begins with it, at a place of the list: no line more, and not ended
abbrev pub begun_at : ℕ → Reader
begun_at position = record { settings = beginning; position = position; repeat = 0; ended = false }

-- a reader n bytes further on, with other settings
abbrev pub read_on : ℕ → Settings → Reader → Reader
read_on n s r = record r { settings = s; position = (r.position + n) % 524288 }

-- the same, with another overlay, map or look
abbrev pub overlaid : ℕ → Overlay → Reader → Reader
overlaid n o r = read_on n (with_overlay o r.settings) r

abbrev pub mapped : ℕ → Map → Reader → Reader
mapped n p r = read_on n (with_map p r.settings) r

abbrev pub looked : ℕ → Look → Reader → Reader
looked n l r = read_on n (with_look l r.settings) r

-- a reader where it is: with other settings, with another repeat, ended or not
abbrev pub with_settings : Settings → Reader → Reader
with_settings s r = record r { settings = s }

abbrev pub repeating : ℕ → Reader → Reader
repeating repeat r = record r { repeat = repeat }

abbrev pub ended_by : Bool → Reader → Reader
ended_by ended r = record r { ended = ended }
