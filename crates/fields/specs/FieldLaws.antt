-- Laws of shapes, for any widths: what is packed has the shape's length, and each way there and back is the identity.
use Rattle.std.specs.Prelude.{ℕ, zero, suc, ◌+◌, ◌*◌, ◌/◌, ◌%◌, ◌^◌, ◌≤◌, ◌<◌, Bool, true, false, ◌&&◌, ◌≡◌, refl, List, [], ◌∷◌, ◌++◌, leb, length, get_or, take, drop}
use Rattle.std.proofs.Common.{true≢false, sym, ap, ◌∙◌, append_assoc, arith, suc-mul, pow-suc, mod-eq_of_lt, leb-true, length-append, length-drop, drop_at, drop-drop, get_or-drop, get_or-append-add, take-add}
use Rattle.std.proofs.Math.Nat.{one-le-pow}
use Rattle.std.proofs.Math.Arith.{mod-mul}
use Rattle.std.proofs.Math.ListN.{get_or-append}
use Rattle.fields.specs.Fields.{size, bytes_of, value_of, pack, unpack, rows}
use Rattle.fields.specs.Ready.{Narrow, narrow-none, narrow_one, Fitted, fit_none, fit-one}

-- ---- lengths
pub length-bytes : (w v : ℕ) → length (bytes_of w v) ≡ w
unfolding bytes_of
length-bytes zero v = refl
length-bytes (suc w) v = ap suc (length-bytes w (v / 256))

pub length-pack : (ws vs : List ℕ) → length ws ≤ length vs → length (pack ws vs) ≡ size ws
unfolding pack size
length-pack [] vs h = refl
length-pack (w ∷ ws) [] h = absurd (omega arith)
length-pack (w ∷ ws) (v ∷ vs) h = length-append (bytes_of w v) (pack ws vs) ∙ omega (arith, length-bytes w v, length-pack ws vs (omega arith))

pub length-unpack : (ws b : List ℕ) → length (unpack ws b) ≡ length ws
unfolding unpack
length-unpack [] b = refl
length-unpack (w ∷ ws) b = ap suc (length-unpack ws (drop w b))

pub fitted-length : {ws vs : List ℕ} → Fitted ws vs → length vs ≡ length ws
fitted-length fit_none = refl
fitted-length (fit-one h r) = ap suc (fitted-length r)

-- the value of a field fits its width
pub fitted-at : {ws vs : List ℕ} (i : ℕ) → Fitted ws vs → i < length ws → get_or vs i 0 < 256 ^ get_or ws i 0
fitted-at i fit_none h = absurd (omega arith)
fitted-at zero (fit-one k r) h = k
fitted-at (suc i) (fit-one k r) h = fitted-at i r (omega arith)

-- a field of no bytes reads as 0
pub unpack-none : (ws b : List ℕ) (i : ℕ) → get_or ws i 0 ≡ 0 → get_or (unpack ws b) i 0 ≡ 0
unfolding unpack value_of
unpack-none [] b i e = refl
unpack-none (w ∷ ws) b zero e = rw e
unpack-none (w ∷ ws) b (suc i) e = unpack-none ws (drop w b) i e

-- ---- two shapes, one after the other
pub size-append : (ws us : List ℕ) → size (ws ++ us) ≡ size ws + size us
unfolding size
size-append [] us = omega arith
size-append (w ∷ ws) us = omega (arith, size-append ws us)

pub unpack-append : (ws us b : List ℕ) → unpack (ws ++ us) b ≡ unpack ws b ++ unpack us (drop (size ws) b)
unfolding unpack size
unpack-append [] us b = refl
unpack-append (w ∷ ws) us b = rw (unpack-append ws us (drop w b), drop-drop (size ws) w b)

pub pack-append : (ws us vs : List ℕ) → length ws ≤ length vs → pack (ws ++ us) vs ≡ pack ws vs ++ pack us (drop (length ws) vs)
unfolding pack
pack-append [] us vs h = refl
pack-append (w ∷ ws) us [] h = absurd (omega arith)
pack-append (w ∷ ws) us (v ∷ vs) h = rw (pack-append ws us vs (omega arith)) (sym (append_assoc (bytes_of w v) (pack ws vs) (pack us (drop (length ws) vs))))

pub fitted-append : {ws us vs xs : List ℕ} → Fitted ws vs → Fitted us xs → Fitted (ws ++ us) (vs ++ xs)
fitted-append fit_none r = r
fitted-append (fit-one h f) r = fit-one h (fitted-append f r)

-- ---- rows
pub size-rows : (n : ℕ) (ws : List ℕ) → size (rows n ws) ≡ n * size ws
unfolding rows size
size-rows zero ws = omega arith
size-rows (suc n) ws = size-append ws (rows n ws) ∙ omega (arith, size-rows n ws, suc-mul n (size ws))

pub length-rows : (n : ℕ) (ws : List ℕ) → length (rows n ws) ≡ n * length ws
unfolding rows
length-rows zero ws = omega arith
length-rows (suc n) ws = length-append ws (rows n ws) ∙ omega (arith, length-rows n ws, suc-mul n (length ws))

-- the width of field j of row i
pub rows_at : (n : ℕ) (ws : List ℕ) (i j : ℕ) → i < n → j < length ws → get_or (rows n ws) (i * length ws + j) 0 ≡ get_or ws j 0
unfolding rows
rows_at zero ws i j h k = absurd (omega arith)
rows_at (suc n) ws zero j h k = let e : 0 * length ws + j ≡ j = omega arith in rw e (get_or-append ws (rows n ws) 0 j k)
rows_at (suc n) ws (suc i) j h k =
    let e : suc i * length ws + j ≡ length ws + (i * length ws + j) = omega (arith, suc-mul i (length ws)) in
    rw e (get_or-append-add ws (rows n ws) (i * length ws + j) 0 ∙ rows_at n ws i j (omega arith) k)

-- ---- writing, then reading

-- us are values vs as the fields of a shape keep them: each cut to its field's bytes
pub data Cut : List ℕ → List ℕ → List ℕ → Type 0 where
  cut-none : Cut [] [] []
  cut-one : {w v u : ℕ} {ws vs us : List ℕ} → u ≡ v % 256 ^ w → Cut ws vs us → Cut (w ∷ ws) (v ∷ vs) (u ∷ us)

-- one that fits is kept as it is
pub cut-fit : {w v : ℕ} {ws vs us : List ℕ} → v < 256 ^ w → Cut ws vs us → Cut (w ∷ ws) (v ∷ vs) (v ∷ us)
cut-fit h c = cut-one (sym (mod-eq_of_lt h)) c

pub fitted-cut : {ws vs : List ℕ} → Fitted ws vs → Cut ws vs vs
fitted-cut fit_none = cut-none
fitted-cut (fit-one h r) = cut-fit h (fitted-cut r)

pub cut-append : {ws vs us xs ys zs : List ℕ} → Cut ws vs us → Cut xs ys zs → Cut (ws ++ xs) (vs ++ ys) (us ++ zs)
cut-append cut-none d = d
cut-append (cut-one e c) d = cut-one e (cut-append c d)

turned : (a b x : ℕ) → x ≡ b * 256 + a → a + 256 * b ≡ x
turned a b x e = omega (arith, e)

value-cut : (w v : ℕ) (rest : List ℕ) → value_of w (bytes_of w v ++ rest) ≡ v % 256 ^ w
unfolding bytes_of value_of
value-cut zero v rest = omega arith
value-cut (suc w) v rest =
    let p : 0 < 256 ^ w = omega (arith, one-le-pow w 256 (omega arith)) in
    let q : v % (256 ^ w * 256) ≡ (v / 256 % 256 ^ w) * 256 + v % 256 = mod-mul v p (omega arith) in
    ap (λ (k : ℕ). v % 256 + 256 * k) (value-cut w (v / 256) rest) ∙ turned (v % 256) (v / 256 % 256 ^ w) (v % 256 ^ suc w) (rw pow-suc q)

pub unpack-cut : {ws vs us : List ℕ} (rest : List ℕ) → Cut ws vs us → unpack ws (pack ws vs ++ rest) ≡ us
unfolding pack unpack
unpack-cut rest cut-none = refl
unpack-cut rest (cut-one {w} {v} {u} {ws} {vs} {us} h r) =
    let e : (bytes_of w v ++ pack ws vs) ++ rest ≡ bytes_of w v ++ (pack ws vs ++ rest) = append_assoc (bytes_of w v) (pack ws vs) rest in
    rw (e, value-cut w v (pack ws vs ++ rest), drop_at (bytes_of w v) (pack ws vs ++ rest) w (length-bytes w v), unpack-cut rest r, h)

pub unpack-pack : {ws vs : List ℕ} (rest : List ℕ) → Fitted ws vs → unpack ws (pack ws vs ++ rest) ≡ vs
unpack-pack rest f = unpack-cut rest (fitted-cut f)

-- ---- reading, then writing

-- every element is a byte
abbrev pub Octets : List ℕ → Type 0
Octets b = (i : ℕ) → get_or b i 0 < 256

pub octets-drop : (n : ℕ) (b : List ℕ) → Octets b → Octets (drop n b)
octets-drop n b h i = rw (get_or-drop n b i 0) (h (n + i))

value-octets : (w : ℕ) (b : List ℕ) → Octets b → w ≤ length b → bytes_of w (value_of w b) ≡ take w b
unfolding bytes_of value_of
value-octets zero b h k = refl
value-octets (suc w) [] h k = absurd (omega arith)
value-octets (suc w) (x ∷ b) h k =
    let v = value_of w b in
    let l : x < 256 = h 0 in
    let p : (x + 256 * v) % 256 ≡ x = omega arith in
    let q : (x + 256 * v) / 256 ≡ v = omega arith in
    rw (p, q, value-octets w b (λ i. h (suc i)) (omega arith))

-- a value of w bytes is below 256 to the w
value-below : (w : ℕ) (b : List ℕ) → Octets b → value_of w b < 256 ^ w
unfolding value_of
value-below zero b h = omega arith
value-below (suc w) b h = rw pow-suc (omega (arith, h 0, value-below w (drop 1 b) (octets-drop 1 b h)))

pub unpack-fitted : (ws b : List ℕ) → Octets b → Fitted ws (unpack ws b)
unfolding unpack
unpack-fitted [] b h = fit_none
unpack-fitted (w ∷ ws) b h = fit-one (value-below w b h) (unpack-fitted ws (drop w b) (octets-drop w b h))

pub pack-unpack : (ws b : List ℕ) → Octets b → size ws ≤ length b → pack ws (unpack ws b) ≡ take (size ws) b
unfolding pack unpack size
pack-unpack [] b h k = refl
pack-unpack (w ∷ ws) b h k =
    rw (value-octets w b h (omega arith), pack-unpack ws (drop w b) (octets-drop w b h) (rw length-drop (omega arith))) (sym (take-add w (size ws) b))

-- ---- a table's widths, by one computed test
abbrev pub thin : List ℕ → Bool
thin [] = true
thin (w ∷ ws) = leb w 8 && thin ws

pub thin-narrow : (ws : List ℕ) → thin ws ≡ true → Narrow ws
thin-narrow [] h = narrow-none
thin-narrow (w ∷ ws) h = narrow_one (leb-true w 8 (left (leb w 8) (thin ws) h)) (thin-narrow ws (right (leb w 8) (thin ws) h))
  where
    left : (a b : Bool) → (a && b) ≡ true → a ≡ true
    left true b e = refl
    left false b e = e

    right : (a b : Bool) → (a && b) ≡ true → b ≡ true
    right true b e = e
    right false b e = absurd (true≢false (sym e))

pub narrow-append : {ws us : List ℕ} → Narrow ws → Narrow us → Narrow (ws ++ us)
narrow-append narrow-none q = q
narrow-append (narrow_one h p) q = narrow_one h (narrow-append p q)

pub narrow-rows : (n : ℕ) {ws : List ℕ} → Narrow ws → Narrow (rows n ws)
unfolding rows
narrow-rows zero p = narrow-none
narrow-rows (suc n) p = narrow-append p (narrow-rows n p)
