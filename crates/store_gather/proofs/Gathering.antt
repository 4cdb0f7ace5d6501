-- The loops that gather what stands at the places of marks, for any element type, and what is made of it.
use mathlib.Core.Path.{◌≡◌, refl, sym, ap, ◌∙◌}
use mathlib.Core.Bool.{Bool, true}
use mathlib.Core.List.{List, [], ◌∷◌, ◌++◌, map, flat_map}
use Prim.Native.Nat.{ℕ, zero, suc, ◌+◌, ◌*◌, ◌≤◌, ◌<◌}
use native.Mathlib.Omega.{arith}
use native.Mathlib.Nat.{mul-suc, mul-zero, mul-le-mul_left, zero-add}
use native.Mathlib.Numerals.{add-one}
use lib.ListN.{length, get_or, set, take, drop, length-set, length-drop, length-map, length-append}
use lib.Seq.{paste, length-paste, take-suc, take_at, take-length, drop-drop, drop-append-add, length-take-le}
use lib.Dec.{eqb}
use borrow.Author.Tests.{eqb-true}
use Rattle.std.proofs.lemmas.List.{nil_from_length}
use Rattle.basis.specs.All.{All, all-get}
use Rattle.basis.specs.FlatLaws.{flat-snoc}
use Rattle.basis.specs.Room.{room_of, cleared}
use Rattle.basis.specs.RoomLaws.{room-left}
use Rattle.store.specs.Blocks.{block}
use Rattle.store.specs.BlocksLaws.{length-block, length-flat}
use Rattle.store.specs.Marks.{handle_of, place_of, filled}
use Rattle.store.specs.Ready.{Front, CopyFits}
use Rattle.store.specs.ReadyLaws.{front-none, front-more, front-filled}
use Rattle.store_gather.specs.Gather.{GatherFits, blocks_at, LayFits, ShowFits, ShowHandles}

-- ---- places gathered

pub record Gathering {A : Type 0} (items : List A) (w n : ℕ) (dst₀ dst : List A) (k : ℕ) : Type 0 where
  pub ahead : k ≤ n
  pub len : length dst ≡ length dst₀
  pub is : dst ≡ items ++ drop (w * k) dst₀

module _ {A : Type 0} (w : ℕ) (src : List A) (marks : List ℕ) (dst₀ : List A) where
  abbrev pub GatheringOf : List A → ℕ → Type 0
  GatheringOf dst k = Gathering (blocks_at w src (take k marks)) w (length marks) dst₀ dst k

  pub gather-none : GatheringOf dst₀ 0
  unfolding blocks_at flat_map
  gather-none = record { ahead = omega arith; len = refl; is = rw (mul-zero w) }

module _ {A : Type 0} (w : ℕ) (src : List A) (marks : List ℕ) (dst₀ : List A) (fit : GatherFits w src marks dst₀) where
  pub blocks-length : (k : ℕ) → k ≤ length marks → length (blocks_at w src (take k marks)) ≡ w * k
  unfolding blocks_at
  blocks-length k h =
      let m : length (take k marks) ≡ k = length-take-le k marks h in
      length-flat (λ m. block w src (place_of m)) w (take k marks) (wide (take k marks) (front k marks fit.below)) ∙ ap (λ (j : ℕ). w * j) m
    where
      wide : (l : List ℕ) → All (λ m. place_of m < fit.many) l → All (λ m. length (block w src (place_of m)) ≡ w) l
      wide [] x = tt
      wide (m ∷ l) x = (length-block w src fit.many (place_of m) fit.width x.0, wide l x.1)

      front : (j : ℕ) (l : List ℕ) → All (λ m. place_of m < fit.many) l → All (λ m. place_of m < fit.many) (take j l)
      front zero l x = tt
      front (suc j) [] x = tt
      front (suc j) (m ∷ l) x = (x.0, front j l x.1)

  module _ (k : ℕ) (h : k < length marks) where
    done-length : length (blocks_at w src (take k marks)) ≡ w * k
    done-length = blocks-length k (omega arith)

    below : place_of (get_or marks k 0) < fit.many
    below = all-get (λ m. place_of m < fit.many) marks k 0 fit.below h

    pub gather-from : (t : ℕ) → t ≡ place_of (get_or marks k 0) → w * t + w ≤ length src
    gather-from t e =
        let a : w * suc t ≤ w * fit.many = mul-le-mul_left w (rw e below) in
        let b : w * suc t ≡ w * t + w = mul-suc w t in
        let c = fit.width in
        omega arith

    pub gather-to : (dst : List A) → GatheringOf w src marks dst₀ dst k → w * k + w ≤ length dst
    gather-to dst g =
        let a : w * suc k ≤ w * length marks = mul-le-mul_left w h in
        let b : w * suc k ≡ w * k + w = mul-suc w k in
        let c = fit.room in
        let d = g.len in
        omega arith

    pub gather-fits : (dst : List A) (t : ℕ) → t ≡ place_of (get_or marks k 0) → GatheringOf w src marks dst₀ dst k → CopyFits src (w * t) dst (w * k) w
    gather-fits dst t e g = record { from = gather-from t e; to = gather-to dst g }

    pub gather-more : (dst dst' : List A) (t : ℕ) → t ≡ place_of (get_or marks k 0) → GatheringOf w src marks dst₀ dst k → dst' ≡ paste dst (w * k) (drop (w * t) src) w → GatheringOf w src marks dst₀ dst' (k + 1)
    gather-more dst dst' t e g f = rw (add-one k) (record { ahead = h; len = ap length f ∙ length-paste dst (w * k) (drop (w * t) src) w (gather-to dst g) (rw (length-drop (w * t) src) (let q = gather-from t e in omega arith)) ∙ g.len; is = f ∙ next })
      where
        p : place_of (get_or marks k 0) ≡ t
        p = sym e

        front : take (w * k) dst ≡ blocks_at w src (take k marks)
        front = rw g.is (take_at (blocks_at w src (take k marks)) (drop (w * k) dst₀) (w * k) done-length)

        back : drop (w * k + w) dst ≡ drop (w * suc k) dst₀
        back =
            let u : w * suc k ≡ w * k + w = mul-suc w k in
            let v : length (blocks_at w src (take k marks)) ≡ w * k = done-length in
            let i : w * k + w ≡ length (blocks_at w src (take k marks)) + w = omega arith in
            rw (g.is, i, drop-append-add (blocks_at w src (take k marks)) (drop (w * k) dst₀) w, drop-drop w (w * k) dst₀, u)

        more : blocks_at w src (take (suc k) marks) ≡ blocks_at w src (take k marks) ++ take w (drop (w * t) src)
        more = unfold blocks_at block in rw (take-suc marks k 0 h, flat-snoc (λ m. take w (drop (w * place_of m) src)) (take k marks) (get_or marks k 0), p)

        next : paste dst (w * k) (drop (w * t) src) w ≡ blocks_at w src (take (suc k) marks) ++ drop (w * suc k) dst₀
        next = rw (front, back, more)

  pub gather-end : (dst : List A) (k : ℕ) → length marks ≤ k → GatheringOf w src marks dst₀ dst k → dst ≡ blocks_at w src marks ++ drop (w * length marks) dst₀
  gather-end dst k h g = let e : k ≡ length marks = let q = g.ahead in omega arith in rw (e, take-length marks) at g.is

  pub all-length : length (blocks_at w src marks) ≡ w * length marks
  all-length = rw take-length at (blocks-length (length marks) (omega arith))

-- ---- the handle of each mark

pub record Handing (marks dst₀ dst : List ℕ) (k : ℕ) : Type 0 where
  pub ahead : k ≤ length marks
  pub len : length dst ≡ length dst₀
  pub front : Front (map handle_of (take k marks)) dst₀ dst k

pub handing-none : (marks dst₀ : List ℕ) → Handing marks dst₀ dst₀ 0
handing-none marks dst₀ = record { ahead = omega arith; len = refl; front = front-none dst₀ }

module _ (need : ℕ) (marks dst₀ : List ℕ) (fit : ShowHandles need marks dst₀) where
  map_snoc : (l : List ℕ) (m : ℕ) → map handle_of (l ++ (m ∷ [])) ≡ map handle_of l ++ (handle_of m ∷ [])
  map_snoc [] m = refl
  map_snoc (x ∷ l) m = ap {B = List ℕ} (λ r. handle_of x ∷ r) (map_snoc l m)

  pub handing-more : (dst : List ℕ) (k h : ℕ) → k < length marks → Handing marks dst₀ dst k → h ≡ handle_of (get_or marks k 0) → Handing marks dst₀ (set dst k h) (k + 1)
  handing-more dst k h q g e =
      let a = fit.least in
      let b = fit.room in
      let w : map handle_of (take (k + 1) marks) ≡ map handle_of (take k marks) ++ (handle_of (get_or marks k 0) ∷ []) = rw (add-one k, take-suc marks k 0 q) (map_snoc (take k marks) (get_or marks k 0)) in
      rw e
      (record {
        ahead = omega arith;
        len = length-set dst k (handle_of (get_or marks k 0)) ∙ g.len;
        front = rw w (front-more dst₀ (map handle_of (take k marks)) dst k (handle_of (get_or marks k 0)) g.front (omega arith));
      })

  pub handing-end : (d₁ d₂ : List ℕ) (k : ℕ) → length marks ≤ k → Handing marks dst₀ d₁ k → d₂ ≡ cleared 0 (length marks) need d₁ → d₂ ≡ room_of 0 1 need (map handle_of marks) dst₀
  handing-end d₁ d₂ k h g f =
      let a = fit.least in
      let e : k ≡ length marks = let q = g.ahead in omega arith in
      let i : d₁ ≡ map handle_of marks ++ drop (length marks) dst₀ = rw (e, take-length marks) at g.front.is in
      room-left 0 1 need (map handle_of marks) dst₀ d₁ d₂ (length marks) need f i (sym (length-map marks handle_of)) (omega arith) a

-- ---- laid out within one list

-- where there are no marks
pub laid_none : {A : Type 0} (w : ℕ) (z : A) (l l' : List A) (marks : List ℕ) (r : Bool) → l' ≡ filled z (length l) [] → r ≡ eqb (length marks) 0 → r ≡ true → l' ≡ filled z (length l) (blocks_at w l marks)
unfolding blocks_at flat_map
laid_none w z l l' marks r e n t = rw (nil_from_length marks (eqb-true _ _ (sym n ∙ t))) e

pub clear-all : {A : Type 0} (z : A) (l l' : List A) (b : ℕ) → b ≡ length l → l' ≡ cleared z 0 b l → l' ≡ filled z (length l) []
clear-all z l l' b c d = front-filled l z [] l l' 0 b (front-none l) refl (omega arith) c d

module _ {A : Type 0} (w : ℕ) (l room : List A) (marks : List ℕ) (f : LayFits w (length room) l marks) where
  lay-room : w * length marks ≤ w * f.many
  lay-room = mul-le-mul_left w f.few

  pub lay-gather : GatherFits w l marks room
  lay-gather =
      let a = lay-room in
      let b = f.small in
      record { many = f.many; width = let q = f.width in omega arith; below = f.below; room = omega arith }

  pub lay-end : w * length marks ≤ length l
  lay-end = let a = lay-room in let b = f.width in omega arith

  pub lay-done : (z : A) (laid l₁ l₂ : List A) (b : ℕ) → laid ≡ blocks_at w l marks ++ drop (w * length marks) room → l₁ ≡ paste l 0 (drop 0 laid) (w * length marks) → b ≡ length l₁ → l₂ ≡ cleared z (w * length marks) b l₁
      → l₂ ≡ filled z (length l) (blocks_at w l marks)
  lay-done z laid l₁ l₂ b e g h i =
      let n : length (blocks_at w l marks) ≡ w * length marks = all-length w l marks room lay-gather in
      let k = lay-end in
      let t : take (w * length marks) laid ≡ blocks_at w l marks = rw e (take_at (blocks_at w l marks) (drop (w * length marks) room) (w * length marks) n) in
      let j : l₁ ≡ blocks_at w l marks ++ drop (w * length marks) l = g ∙ rw (zero-add, t) in
      let m : length l₁ ≡ length l = ap length j ∙ length-append (blocks_at w l marks) (drop (w * length marks) l) ∙ rw (n, length-drop (w * length marks) l) (omega arith) in
      front-filled l z (blocks_at w l marks) l₁ l₂ (w * length marks) b (record { count = n; is = j }) m k h i

-- ---- and in lent room

pub show-done : {A : Type 0} (z : A) (w need : ℕ) (src : List A) (marks : List ℕ) (dst d₁ d₂ : List A) → ShowFits w need src marks dst
    → d₁ ≡ blocks_at w src marks ++ drop (w * length marks) dst → d₂ ≡ cleared z (w * length marks) (w * need) d₁ → d₂ ≡ room_of z w need (blocks_at w src marks) dst
show-done z w need src marks dst d₁ d₂ f e g =
    let m : length (blocks_at w src marks) ≡ w * length marks = all-length w src marks dst f.gather in
    let q : w * length marks ≤ w * need = mul-le-mul_left w f.least in
    room-left z w need (blocks_at w src marks) dst d₁ d₂ (w * length marks) (w * need) g e (sym m) refl q
