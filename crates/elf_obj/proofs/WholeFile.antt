-- The parts of a file one behind the other are the file.
use Rattle.std.proofs.Common.{◌≡◌, ℕ, ◌+◌, List, [], ◌∷◌, ◌++◌, length, refl, sym, ap, ◌∙◌, append_assoc, length-append}
use Rattle.elf_obj.specs.declared.object.Object.{Object}
use Rattle.elf_obj.specs.declared.section.Section.{Section}
use Rattle.elf_obj.specs.Sections.{gap, zeros, contents, section_headers}
use Rattle.elf_obj.specs.Elf.{sections_of, file_header, encode, Holds}
use Rattle.elf_obj.proofs.Sizes.{length_file_header}

-- where the sections of a file end
abbrev end_at : List Section → ℕ
end_at sections = 64 + length (contents 64 sections)

abbrev laid_out : List Section → List ℕ
laid_out sections =
    file_header (end_at sections + gap 8 (end_at sections))
    ++ contents 64 sections
    ++ zeros (gap 8 (end_at sections))
    ++ zeros 64
    ++ section_headers 64 sections

parts_are : (sections : List Section) (end start : ℕ) (headers all_headers header placed padded file : List ℕ) → end ≡ end_at sections → start ≡ end + gap 8 end → headers ≡ zeros 64 → header ≡ file_header start
    → placed ≡ header ++ contents (length header) sections → all_headers ≡ headers ++ section_headers (length header) sections → padded ≡ placed ++ zeros (gap 8 (length placed)) → file ≡ padded ++ all_headers → file ≡ laid_out sections
parts_are sections end start headers all_headers header placed padded file is_end is_start is_headers is_header is_placed is_all is_padded is_file =
    let begins : start ≡ end_at sections + gap 8 (end_at sections) = is_start ∙ ap (λ (n : ℕ). n + gap 8 n) is_end in
    let long : length header ≡ 64 = ap (λ (t : List ℕ). length t) is_header ∙ length_file_header start in
    let front : placed ≡ file_header (end_at sections + gap 8 (end_at sections)) ++ contents 64 sections =
    is_placed ∙ ap (λ (n : ℕ). header ++ contents n sections) long ∙ ap (λ (t : List ℕ). t ++ contents 64 sections) (is_header ∙ ap (λ (n : ℕ). file_header n) begins) in
    let ends : length placed ≡ end_at sections = ap (λ (t : List ℕ). length t) front ∙ length-append (file_header (end_at sections + gap 8 (end_at sections))) (contents 64 sections) ∙ ap (λ (n : ℕ). n + length (contents 64 sections)) (length_file_header (end_at sections + gap 8 (end_at sections))) in
    let body : padded ≡ file_header (end_at sections + gap 8 (end_at sections)) ++ contents 64 sections ++ zeros (gap 8 (end_at sections)) = is_padded ∙ ap (λ (n : ℕ). placed ++ zeros (gap 8 n)) ends ∙ ap (λ (t : List ℕ). t ++ zeros (gap 8 (end_at sections))) front in
    let rest : all_headers ≡ zeros 64 ++ section_headers 64 sections = is_all ∙ ap (λ (t : List ℕ). t ++ section_headers (length header) sections) is_headers ∙ ap (λ (n : ℕ). zeros 64 ++ section_headers n sections) long in
    is_file ∙ ap (λ (t : List ℕ). t ++ all_headers) body ∙ ap (λ (t : List ℕ). (file_header (end_at sections + gap 8 (end_at sections)) ++ contents 64 sections ++ zeros (gap 8 (end_at sections))) ++ t) rest
    ∙ sym (append_assoc (file_header (end_at sections + gap 8 (end_at sections)) ++ contents 64 sections ++ zeros (gap 8 (end_at sections))) (zeros 64) (section_headers 64 sections))

pub is_file : (object : Object) (sections : List Section) (end start : ℕ) (headers all_headers header placed padded file : List ℕ) → sections ≡ sections_of object → end ≡ end_at sections → start ≡ end + gap 8 end → headers ≡ zeros 64 → header ≡ file_header start
    → placed ≡ header ++ contents (length header) sections → all_headers ≡ headers ++ section_headers (length header) sections → padded ≡ placed ++ zeros (gap 8 (length placed)) → file ≡ padded ++ all_headers → Holds file object
unfolding encode
is_file object sections end start headers all_headers header placed padded file are is_end is_start is_headers is_header is_placed is_all is_padded whole =
    parts_are sections end start headers all_headers header placed padded file is_end is_start is_headers is_header is_placed is_all is_padded whole ∙ ap (λ (s : List Section). laid_out s) are
