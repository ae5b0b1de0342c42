-- Variants of an item, by the value that it represents.
use Rattle.std.proofs.Common.{◌≡◌, ℕ, ℤ, Bool, true, false, List, Vec, Global, refl, sym, subst, ◌∙◌, rules}
use Rattle.secs_item.specs.Format.{is_list}
use Rattle.secs_item.specs.Item.{Value, list, values, binary, boolean, ascii, jis8, char2, i1, i2, i4, i8, u1, u2, u4, u8, f4, f8, format_of, view}
use Rattle.secs_item.specs.declared.item.Item.{Item, roll-Item, out-Item, roll-out-Item, the_lemmas, List as item_list, Binary as item_binary, Boolean as item_boolean, Ascii as item_ascii, Jis8 as item_jis8, Char2 as item_char2, I1 as item_i1, I2 as item_i2, I4 as item_i4, I8 as item_i8, U1 as item_u1, U2 as item_u2, U4 as item_u4, U8 as item_u8, F4 as item_f4, F8 as item_f8}
use Rattle.secs_item.specs.declared.item.Item.TheOpen.{Item-F}
use Rattle.secs_item.proofs.Views.{view-List, view-Binary, view-Boolean, view-Ascii, view-Jis8, view-Char2, view-I1, view-I2, view-I4, view-I8, view-U1, view-U2, view-U4, view-U8, view-F4, view-F8}

-- Holds if the item has the variant that the value's format names.
abbrev pub Made : Value → Item → Type 0
Made (list es) item = (v : Vec Item Global) × (item ≡ item_list v)
Made (values (binary xs)) item = (v : Vec ℕ Global) × (item ≡ item_binary v)
Made (values (boolean xs)) item = (v : Vec Bool Global) × (item ≡ item_boolean v)
Made (values (ascii xs)) item = (v : Vec ℕ Global) × (item ≡ item_ascii v)
Made (values (jis8 xs)) item = (v : Vec ℕ Global) × (item ≡ item_jis8 v)
Made (values (char2 xs)) item = (v : Vec ℕ Global) × (item ≡ item_char2 v)
Made (values (i1 xs)) item = (v : Vec ℤ Global) × (item ≡ item_i1 v)
Made (values (i2 xs)) item = (v : Vec ℤ Global) × (item ≡ item_i2 v)
Made (values (i4 xs)) item = (v : Vec ℤ Global) × (item ≡ item_i4 v)
Made (values (i8 xs)) item = (v : Vec ℤ Global) × (item ≡ item_i8 v)
Made (values (u1 xs)) item = (v : Vec ℕ Global) × (item ≡ item_u1 v)
Made (values (u2 xs)) item = (v : Vec ℕ Global) × (item ≡ item_u2 v)
Made (values (u4 xs)) item = (v : Vec ℕ Global) × (item ≡ item_u4 v)
Made (values (u8 xs)) item = (v : Vec ℕ Global) × (item ≡ item_u8 v)
Made (values (f4 xs)) item = (v : Vec (List ℕ) Global) × (item ≡ item_f4 v)
Made (values (f8 xs)) item = (v : Vec (List ℕ) Global) × (item ≡ item_f8 v)

made_by : (item made : Item) (w : Value) → item ≡ made → view made ≡ w → Made w made → Made (view item) item
made_by item made w item_is shown is = rw (item_is, shown) is

made_open : (o : Item-F Item) → Made (view (roll-Item o)) (roll-Item o)
made_open (Item-F.List v) = made_by (roll-Item (Item-F.List v)) (item_list v) _ (search (rules, the_lemmas)) (view-List v) (v, refl)
made_open (Item-F.Binary v) = made_by (roll-Item (Item-F.Binary v)) (item_binary v) _ (search (rules, the_lemmas)) (view-Binary v) (v, refl)
made_open (Item-F.Boolean v) = made_by (roll-Item (Item-F.Boolean v)) (item_boolean v) _ (search (rules, the_lemmas)) (view-Boolean v) (v, refl)
made_open (Item-F.Ascii v) = made_by (roll-Item (Item-F.Ascii v)) (item_ascii v) _ (search (rules, the_lemmas)) (view-Ascii v) (v, refl)
made_open (Item-F.Jis8 v) = made_by (roll-Item (Item-F.Jis8 v)) (item_jis8 v) _ (search (rules, the_lemmas)) (view-Jis8 v) (v, refl)
made_open (Item-F.Char2 v) = made_by (roll-Item (Item-F.Char2 v)) (item_char2 v) _ (search (rules, the_lemmas)) (view-Char2 v) (v, refl)
made_open (Item-F.I1 v) = made_by (roll-Item (Item-F.I1 v)) (item_i1 v) _ (search (rules, the_lemmas)) (view-I1 v) (v, refl)
made_open (Item-F.I2 v) = made_by (roll-Item (Item-F.I2 v)) (item_i2 v) _ (search (rules, the_lemmas)) (view-I2 v) (v, refl)
made_open (Item-F.I4 v) = made_by (roll-Item (Item-F.I4 v)) (item_i4 v) _ (search (rules, the_lemmas)) (view-I4 v) (v, refl)
made_open (Item-F.I8 v) = made_by (roll-Item (Item-F.I8 v)) (item_i8 v) _ (search (rules, the_lemmas)) (view-I8 v) (v, refl)
made_open (Item-F.U1 v) = made_by (roll-Item (Item-F.U1 v)) (item_u1 v) _ (search (rules, the_lemmas)) (view-U1 v) (v, refl)
made_open (Item-F.U2 v) = made_by (roll-Item (Item-F.U2 v)) (item_u2 v) _ (search (rules, the_lemmas)) (view-U2 v) (v, refl)
made_open (Item-F.U4 v) = made_by (roll-Item (Item-F.U4 v)) (item_u4 v) _ (search (rules, the_lemmas)) (view-U4 v) (v, refl)
made_open (Item-F.U8 v) = made_by (roll-Item (Item-F.U8 v)) (item_u8 v) _ (search (rules, the_lemmas)) (view-U8 v) (v, refl)
made_open (Item-F.F4 v) = made_by (roll-Item (Item-F.F4 v)) (item_f4 v) _ (search (rules, the_lemmas)) (view-F4 v) (v, refl)
made_open (Item-F.F8 v) = made_by (roll-Item (Item-F.F8 v)) (item_f8 v) _ (search (rules, the_lemmas)) (view-F8 v) (v, refl)

pub made : (item : Item) → Made (view item) item
made item = subst (λ (i : Item). Made (view i) i) (roll-out-Item item) (made_open (out-Item item))

-- An item of another variant represents another value.
pub other_variant : {A : Type 0} (make : A → Item) (w : Value) (item other : Item) → (Made w other → (v : A) × (other ≡ make v)) → view item ≡ w → ((v : A) → other ≡ make v → ⊥)
    → (false ≡ true → view item ≡ view other) × (view item ≡ view other → false ≡ true)
other_variant make w item other is shown not = (λ h. absurd cc, λ e. let p = is (subst (λ (u : Value). Made u other) (sym e ∙ shown) (made other)) in absurd (not p.0 p.1))

-- An item that is not the variant `List` has no list as its value.
no_list : (w : Value) (item : Item) → Made w item → ((v : Vec Item Global) → item ≡ item_list v → ⊥) → is_list (format_of w) ≡ false
no_list (list es) item is not = absurd (not is.0 is.1)
no_list (values (binary xs)) item is not = refl
no_list (values (boolean xs)) item is not = refl
no_list (values (ascii xs)) item is not = refl
no_list (values (jis8 xs)) item is not = refl
no_list (values (char2 xs)) item is not = refl
no_list (values (i1 xs)) item is not = refl
no_list (values (i2 xs)) item is not = refl
no_list (values (i4 xs)) item is not = refl
no_list (values (i8 xs)) item is not = refl
no_list (values (u1 xs)) item is not = refl
no_list (values (u2 xs)) item is not = refl
no_list (values (u4 xs)) item is not = refl
no_list (values (u8 xs)) item is not = refl
no_list (values (f4 xs)) item is not = refl
no_list (values (f8 xs)) item is not = refl

pub is_no_list : (item : Item) → ((v : Vec Item Global) → item ≡ item_list v → ⊥) → is_list (format_of (view item)) ≡ false
is_no_list item not = no_list (view item) item (made item) not
