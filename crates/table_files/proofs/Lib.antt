mod FileLaws
