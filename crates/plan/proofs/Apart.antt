-- The install address decides the record of each line's settings and nothing else. Assumes nothing.
use mathlib.Core.Path.{◌≡◌, refl, sym, ap, ◌∙◌}
use mathlib.Core.Bool.{Bool, true, false, cond}
use mathlib.Core.List.{List, [], ◌∷◌}
use Prim.Native.Nat.{ℕ, ◌-◌}
use lib.Dec.{ltb}
use Rattle.settings.specs.Settings.{off, without_record}
use Rattle.settings.specs.Below.{settings_below}
use Rattle.settings.specs.declared.Settings.{Settings}
use Rattle.item.specs.Item.{lines_of}
use Rattle.item.specs.declared.Item.{Item}
use Rattle.item.specs.declared.Item.TheVariants.{Full as full, Running as running}
use Rattle.plan.specs.Meaning.{full_settings, running_settings, Latest, enter, lower, settings_at, meaning_from, AddressApart}

-- the latest band, whatever record made it and wherever the next one is
abbrev bare : Latest → Latest
bare l = record { first = without_record l.first; below = l.below; next = 0 }

-- an item is entered alike
entered : (it : Item) (l : Latest) → bare (enter it l) ≡ bare (enter it (bare l))
unfolding full_settings running_settings
entered (full b) l = refl
entered (running b) l = refl

-- what is seen of two latest bands that are alike
line_apart : (l : Latest) (k : ℕ) → without_record (settings_at l k) ≡ settings_at (bare l) k
unfolding settings_below
line_apart l k = refl

end_apart : (l : Latest) → without_record (off (settings_at l 0)) ≡ off (settings_at (bare l) 0)
unfolding settings_below off
end_apart l = refl

either : (t : Bool) (x y v w : Settings) → without_record x ≡ without_record v → without_record y ≡ without_record w → without_record (cond t x y) ≡ without_record (cond t v w)
either true x y v w p q = p
either false x y v w p q = q

-- any line of any items
bared : (items : List Item) (l : Latest) (k : ℕ) → without_record (meaning_from items l k) ≡ without_record (meaning_from items (bare l) k)
unfolding meaning_from
bared [] l k = end_apart l ∙ sym (end_apart (bare l))
bared (it ∷ more) l k =
    let e = enter it l in
    let v = enter it (bare l) in
    let n = lines_of it in
    either (ltb k n) _ _ _ _
    (line_apart e k ∙ ap (λ (x : Latest). settings_at x k) (entered it l) ∙ sym (line_apart v k))
    (bared more (lower n e) (k - n)
    ∙ ap (λ (x : Latest). without_record (meaning_from more (lower n x) (k - n))) (entered it l)
    ∙ sym (bared more (lower n v) (k - n)))

pub address_apart : AddressApart
address_apart items a b k = bared items _ k ∙ sym (bared items _ k)
